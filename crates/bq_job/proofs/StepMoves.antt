-- Each part of a step, as moves: timers, turns of dispatch, ends of waits, and the command's own effect.
use Rattle.std.proofs.Common.{◌&&◌, ◌++◌, ◌∙◌, ◌∷◌, ◌≡◌, List, None, Option, Some, [], ℕ, ap}
use Rattle.std.proofs.Common.{arith, cond, inl, inr, map, refl, subst, sym, true}
use Rattle.std.proofs.lemmas.Bool.{cases_Bool, and_parts, and_from, or_left, or_right, both_ways, cond_both, eq-eqb}
use Rattle.std.proofs.lemmas.{Grind.common_steps, List.length-map}
use Rattle.std.specs.{List.{AllByRecursion as All, Contains, list_any}, Prelude.{◌==◌, option_map}}
use Rattle.bq_job.specs.machine.{Chain, DispatchTurn, Dispatches, EndsWaits, GivenAnswer, IsHandOut}
use Rattle.bq_job.specs.machine.{Machine.Machine, Memory, SeatRecord, acted}
use Rattle.bq_job.specs.machine.{WaitEndTurn, after_timers, at_moment, forgetting, is_expired}
use Rattle.bq_job.specs.machine.{job_after_timers, job_with, new_machine, next_job, next_seat, reserved_by}
use Rattle.bq_job.specs.laws.{Part, changes, disturbs, expirations, hand_out, hand_outs, happenings, parts_in}
use Rattle.bq_job.specs.{beside.IsLawful, laws.parts_of_run, promise.{GoesBy, IsTransition}}
use Rattle.bq_job.specs.{promise.{Transition}, Types.{Job, Settings, Step}}
use Rattle.bq_job.proofs.LawfulLemmas.{after_timers_is, end_of, new_is_lawful, kept_of_timers, leaves_acted, step_is_lawful, turns}
use Rattle.bq_job.proofs.Trace.{of_dispatches, of_ends, steady}
use Rattle.bq_job.proofs.{ActMoves.{Ids, StaysWithin, after_acted, within_acted}, LookupLemmas.{found_job, job_found, job_in_map}}
use Rattle.bq_job.proofs.{ChangeLemmas.move_of_jobs, KeptLemmas.{Keeps, ids_of_map, kept_of_lawful}}
use Rattle.bq_job.proofs.{DispatchLemmas.{next_is_least, turn_of}, ListLemmas.{all_always, all_at, all_of_map, list_any_with}}
use Rattle.bq_job.proofs.JobMoves.{Fate, Goes, Move, goes_one, goes_then, handing, is_plain, moves, quiet, stops}

-- Nothing happens to jobs.
still_move : (m n : Machine) → n.jobs ≡ m.jobs → n.next_id ≡ m.next_id → Move m [] n
still_move m n jobs next = grind (arith, common_steps, quiet, Fate, cases_Bool)

-- timers
plain_expirations : (moment : ℕ) (jobs : List Job) → All (λ h. is_plain h ≡ true) (expirations moment jobs)
plain_expirations moment jobs = grind (arith, common_steps, all_of_map, is_plain, all_always)

told_to_expire : (moment id : ℕ) (jobs : List Job) → list_any (λ j. is_expired moment j.state && j.id == id) jobs ≡ true
    → list_any (disturbs id) (expirations moment jobs) ≡ true
told_to_expire moment id [] h = absurd cc
told_to_expire moment id (j ∷ jobs) h = grind (arith, common_steps, cases_Bool, or_left, or_right, told_to_expire moment id jobs)

timed_fate : (moment id : ℕ) (jobs : List Job) (o : Option Job) → job_with id jobs ≡ o
    → Fate id (expirations moment jobs) o (option_map (job_after_timers moment) o)
timed_fate moment id jobs None e = refl
timed_fate moment id jobs (Some j) e =
    grind (arith, common_steps, after_timers_is, found_job, told_to_expire moment id jobs, list_any_with, and_from, eq-eqb, both_ways)

-- one turn of dispatch
hand_out_move : (m n : Machine) (j : Job) (s : SeatRecord) (given : GivenAnswer) → Ids m → next_job m ≡ Some j → next_seat m j ≡ Some s
    → IsHandOut m j s given n → Move m (hand_out given.1) n × Ids n
hand_out_move m n j s given ids e f (inl h) =
    let least = next_is_least m j s e f in
    let found = job_found 1 m.next_id m.jobs j ids least.kept in
    let jobs : n.jobs ≡ map (λ k. cond (k.id == j.id) (reserved_by m.moment s.number k) k) m.jobs = ap (λ (l : Machine). l.jobs) h.1 in
    let next : n.next_id ≡ m.next_id = ap (λ (l : Machine). l.next_id) h.1 in (
      handing (record {
        job = j;
        seat = s.number;
        happened_is = ap (λ (g : GivenAnswer). hand_out g.1) h.0;
        next = next;
        jobs = jobs;
        there = found.0;
        below = found.1;
        ready = grind arith;
        least = λ k i ready tube. least.least k i (grind (arith, common_steps, and_parts, and_from));
      }),
      grind (arith, common_steps, ids_of_map, cond_both),
    )
hand_out_move m n j s given ids e f (inr h) = grind (arith, common_steps, still_move)

goes_by_dispatch : (m : Machine) (given : List GivenAnswer) (end n : Machine) → Ids m → Chain DispatchTurn m given end → n ≡ forgetting end
    → Goes m (hand_outs given) n
goes_by_dispatch m [] end n ids chain is =
    let same = is ∙ ap forgetting chain in
    goes_one m [] n (still_move m n (ap (λ (l : Machine). l.jobs) same) (ap (λ (l : Machine). l.next_id) same))
goes_by_dispatch m (g ∷ given) end n ids chain is =
    let t = turn_of m g chain.0 chain.1 in
    let one = hand_out_move m chain.0 t.job t.client g ids t.job_is t.client_is t.hands in
    moves chain.0 (hand_out g.1) (hand_outs given) one.0 (goes_by_dispatch chain.0 given end n one.1 chain.2 is)

-- the ends of waits
same_jobs : (m : Machine) (given : List GivenAnswer) (n : Machine) → Chain WaitEndTurn m given n
    → (n.jobs ≡ m.jobs) × (n.next_id ≡ m.next_id)
same_jobs m [] n chain = (ap (λ (l : Machine). l.jobs) chain, ap (λ (l : Machine). l.next_id) chain)
same_jobs m (g ∷ given) n chain = grind (arith, common_steps, end_of, same_jobs chain.0 given n chain.2)

-- A part is a sequence of moves, and keeps what every part keeps.
pub record PartGoes (m : Machine) (p : Part) : Type 0 where
  pub goes : Goes m p.happened p.machine
  pub keeps : Keeps p.machine
  pub within : StaysWithin m p.machine

abbrev pub ArePartsGone : Machine → List Part → Machine → Type 0
ArePartsGone m [] n = n ≡ m
ArePartsGone m (p ∷ parts) n = PartGoes m p × ArePartsGone p.machine parts n

pub gone_then : (m k n : Machine) (parts more : List Part) → ArePartsGone m parts k → ArePartsGone k more n
    → ArePartsGone m (parts ++ more) n
gone_then m k n [] more h i = subst (λ l. ArePartsGone l more n) h i
gone_then m k n (p ∷ parts) more h i = (h.0, gone_then p.machine k n parts more h.1 i)

-- the parts of a step
timers_part : (at : ℕ) (m : Machine) → Keeps m
    → let timed = forgetting (after_timers (at_moment at m)) in
    PartGoes m (record { happened = expirations timed.moment m.jobs; machine = timed })
timers_part at m keeps = record {
  goes = grind (arith, common_steps, job_in_map, after_timers_is, goes_one, plain_expirations, timed_fate);
  keeps = kept_of_timers at m keeps;
  within = grind (arith, common_steps, length-map);
}

dispatch_part : (m : Machine) (given : List GivenAnswer) (n : Machine) → Keeps m → Dispatches m given n
    → PartGoes m (record { happened = hand_outs given; machine = n })
dispatch_part m given n keeps d = record {
  goes = goes_by_dispatch m given d.end n keeps.ids d.turns d.forgets;
  keeps = (of_dispatches turns m given n d keeps).keeps;
  within = let s = of_dispatches steady m given n d in grind arith;
}

ends_part : (m : Machine) (given : List GivenAnswer) (n : Machine) → Keeps m → EndsWaits m given n
    → PartGoes m (record { happened = []; machine = n })
ends_part m given n keeps e = record {
  goes = grind (arith, common_steps, same_jobs, goes_one, still_move);
  keeps = (of_ends turns m given n e keeps).keeps;
  within = let s = of_ends steady m given n e in grind arith;
}

command_part : (memory : Memory) (m : Machine) (seat : ℕ) (what : Step) (n : Machine) → Keeps m
    → n ≡ forgetting (acted memory m seat what).machine → PartGoes m (record { happened = changes what m.jobs n.jobs; machine = n })
command_part memory m seat what n keeps acts = rw acts (record {
  goes = goes_one m _ _ (move_of_jobs what m (forgetting (acted memory m seat what).machine) keeps.ids
      (after_acted memory m seat what keeps.ids));
  keeps = (leaves_acted memory m seat what keeps).keeps;
  within = within_acted memory m seat what keeps.ids;
})

parts_gone : (t : Transition) → Keeps t.first → IsTransition t → ArePartsGone t.first (parts_in t) t.last
parts_gone t keeps is =
    let s = is.step in
    let v = s.serves in
    let w = s.serves_then in
    let a = timers_part t.entry.moment t.first keeps in
    let b = dispatch_part _ s.handed v.between a.keeps v.dispatches in
    let c = ends_part v.between s.ended s.before b.keeps v.ends_waits in
    let d = command_part s.memory s.before t.entry.seat t.entry.what s.after c.keeps s.acts in
    let e = dispatch_part s.after s.handed_then w.between d.keeps w.dispatches in
    let f = ends_part w.between s.ended_then t.last e.keeps w.ends_waits in
    rw is.parts_are (a, (b, (c, (d, (e, (f, refl))))))

-- the parts of a run
pub run_gone : (first : Machine) (taken : List Transition) (last : Machine) → IsLawful first → GoesBy first taken last
    → ArePartsGone first (parts_of_run taken) last
run_gone first [] last lawful goes = goes
run_gone first (t ∷ taken) last lawful goes =
    let here : IsLawful t.first = rw goes.0 lawful in
    let then = step_is_lawful t.first t.last t.entry.moment t.entry.seat t.entry.what t.outcome t.given here goes.1.step in
    grind (arith, gone_then, parts_gone t (kept_of_lawful t.first here) goes.1, run_gone t.last taken last then goes.2)

-- What holds of a new model and is kept by each part holds after each part of a run.
pub always : (Q : Machine → Type 0) → ((m : Machine) (p : Part) → PartGoes m p → Q m → Q p.machine) → (settings : Settings)
    (taken : List Transition) (last : Machine) (p : Part) → Q (new_machine settings) → GoesBy (new_machine settings) taken last
    → Contains (parts_of_run taken) p → Q p.machine
always Q kept settings taken last p begins goes i =
    all_at (λ q. Q q.machine) (parts_of_run taken) p
    (each_part (new_machine settings) (parts_of_run taken) last begins (run_gone _ taken last (new_is_lawful settings) goes)) i
  where
    each_part : (m : Machine) (parts : List Part) (n : Machine) → Q m → ArePartsGone m parts n → All (λ p. Q p.machine) parts
    each_part m [] n q gone = tt
    each_part m (p ∷ parts) n q gone =
        let now = kept m p gone.0 q in (now, each_part p.machine parts n now gone.1)

-- all parts together
pub parts_go : (m : Machine) (parts : List Part) (n : Machine) → ArePartsGone m parts n → Goes m (happenings parts) n
parts_go m [] n h = subst (λ l. Goes m [] l) (sym h) stops
parts_go m (p ∷ parts) n h = goes_then m p.machine n p.happened (happenings parts) h.0.goes (parts_go p.machine parts n h.1)
