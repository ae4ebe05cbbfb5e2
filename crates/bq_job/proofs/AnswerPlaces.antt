-- The places of RESERVED, INSERTED and DELETED among a step's answers, and what holds there.
use Rattle.std.proofs.Common.{ℕ, zero, suc, ◌≡◌, Bool, true, false, not, List, [], ◌∷◌, ◌++◌, append_assoc, arith, refl}
use Rattle.std.proofs.Common.{sym, ap, ◌∙◌, inl, inr, ◌⊎◌, Option, Some, None, append-nil}
use Rattle.std.proofs.lemmas.{Bool.{both_ways, cases_Bool, or_from}, Grind.common_steps}
use Rattle.std.proofs.lemmas.List.{Elements.{All-contains, Contains-append_right, filter_passes}, Folds.list_any-append}
use Rattle.std.specs.{List.{AllByRecursion as All, Contains}, Prelude.{◌==◌, filter, flat_map}}
use Rattle.bq_job.specs.machine.{Chain, DispatchTurn, Dispatches, Effect, EndsWaits, GivenAnswer, IsStep, Machine.Machine}
use Rattle.bq_job.specs.machine.{WaitEndTurn, acted, addressed, after_timers, at_moment, forgetting}
use Rattle.bq_job.specs.laws.{GivesLeast, IsDeletion, IsDispatchedLeast, has_inserted, is_inserted}
use Rattle.bq_job.specs.machine.{last_id}
use Rattle.bq_job.specs.{promise.{GoesBy, IsTransition, Transition, parts_of}, Types.{Answer, Job}}
use Rattle.bq_job.specs.declared.answer.Answer.TheVariants as answers
use Rattle.bq_job.specs.declared.step.Step.TheVariants as steps
use Rattle.bq_job.proofs.Trace.{IsServing, of_dispatches, of_serves, of_turns, steady}
use Rattle.bq_job.proofs.{DispatchLemmas.reserved_is_least, EffectKinds.is_common, LawfulLemmas.end_of}
use Rattle.bq_job.proofs.{ListLemmas.{all_at, all_of_append, all_weaker, contains_head, list_any_not}, LookupLemmas.found_job}
use Rattle.bq_job.proofs.OwnAnswerLemmas.{Tells, commonly, deleting, inserting, reserving}
use Rattle.bq_job.proofs.OwnAnswerLemmas.{drains_acted, tells_acted}

-- an element of two joined lists: in the first, or in the second
split_at : {X : Type 0} (xs ys early : List X) (x : X) (more : List X) → xs ++ ys ≡ early ++ x ∷ more
    → ((rest : List X) × (xs ≡ early ++ x ∷ rest) × (more ≡ rest ++ ys))
    ⊎ ((begin : List X) × (early ≡ xs ++ begin) × (ys ≡ begin ++ x ∷ more))
split_at [] ys early x more e = inr (early, refl, e)
split_at (z ∷ xs) ys [] x more e = inl (xs, (let same : z ≡ x = (cc) in ap (λ y. y ∷ xs) same), (cc))
split_at (z ∷ xs) ys (w ∷ early) x more e = grind (arith, common_steps, split_at xs ys early x more)

all_in_place : {X : Type 0} (P : X → Type 0) (xs early : List X) (x : X) (more : List X) → xs ≡ early ++ x ∷ more → All P xs → P x
all_in_place P xs early x more e h = all_at P xs x h (rw e (Contains-append_right early (x ∷ more) x (contains_head x more)))

-- each element has a place
placed : {X : Type 0} (xs : List X) (x : X) → Contains xs x → (early : List X) × (more : List X) × (xs ≡ early ++ x ∷ more)
placed [] x (n, less, is) = absurd (omega arith)
placed (y ∷ xs) x (zero, less, is) = ([], xs, ap (λ z. z ∷ xs) is)
placed (y ∷ xs) x (suc n, less, is) = let r = placed xs x (n, omega arith, is) in (y ∷ r.0, r.1, ap (λ zs. y ∷ zs) r.2)

-- Serving the clients gives neither INSERTED nor DELETED.
abbrev is_served : Answer → Bool
is_served (answers.Inserted id) = false
is_served answers.Deleted = false
is_served _ = true

abbrev IsServed : GivenAnswer → Type 0
IsServed g = is_served g.1 ≡ true

-- A wait that ends gives no RESERVED either.
abbrev IsCommon : GivenAnswer → Type 0
IsCommon g = is_common (Some g.1) ≡ true

serving : IsServing (λ m given n. All IsServed given)
serving = grind (arith, common_steps)

ends_common : (m : Machine) (given : List GivenAnswer) (n : Machine) → EndsWaits m given n → All IsCommon given
ends_common m given n e =
    of_turns WaitEndTurn (record { none = λ m. tt; joins = λ a b c. all_of_append IsCommon })
    (λ m g n turn. grind (arith, common_steps, end_of)) m given e.end e.turns

turn_in_chain : (m : Machine) (given : List GivenAnswer) (g : GivenAnswer) (more : List GivenAnswer) (n : Machine)
    → Chain DispatchTurn m (given ++ g ∷ more) n
    → (at : Machine) × (next : Machine) × Chain DispatchTurn m given at × DispatchTurn at g next
turn_in_chain m [] g more n chain = (m, chain.0, refl, chain.1)
turn_in_chain m (h ∷ given) g more n chain = grind (arith, common_steps, turn_in_chain chain.0 given g more n chain.2)

dispatched_least : (first : Machine) (before handed given more early : List GivenAnswer) (seat id : ℕ) (body : List ℕ) (last : Machine)
    → Dispatches first handed last → handed ≡ given ++ (seat, answers.Reserved id body) ∷ more → early ≡ before ++ given
    → IsDispatchedLeast first before handed early seat id body
dispatched_least first before handed given more early seat id body last d is place =
    let t = turn_in_chain first given (seat, answers.Reserved id body) more d.end (rw is at d.turns) in
    grind (arith, reserved_is_least t.0 t.1 seat id body t.3)

-- the command's own answer
own_place : (seat : ℕ) (o : Option Answer) (early : List GivenAnswer) (g : GivenAnswer) (more : List GivenAnswer)
    → addressed seat o ≡ early ++ g ∷ more → (early ≡ []) × (more ≡ []) × (g.0 ≡ seat) × (o ≡ Some g.1)
own_place seat o [] g more e = grind (arith, common_steps)
own_place seat None (x ∷ early) g more e = absurd cc
own_place seat (Some answer) (x ∷ []) g more e = absurd cc
own_place seat (Some answer) (x ∷ y ∷ early) g more e = absurd cc

none_served : (given : List GivenAnswer) → All IsServed given → has_inserted given ≡ false
none_served given h = list_any_not _ given (all_weaker IsServed _ given (λ g served. grind (arith, common_steps, cases_Bool)) h)

none_joined : (xs ys : List GivenAnswer) → has_inserted xs ≡ false → has_inserted ys ≡ false → has_inserted (xs ++ ys) ≡ false
none_joined xs ys h i = list_any-append (λ (g : GivenAnswer). is_inserted g.1) xs ys ∙ or_from (has_inserted xs) (has_inserted ys) h i

-- what holds of a step that begins while draining, and of one whose command begins draining
pub record StaysDraining (given : List GivenAnswer) (last : Machine) : Type 0 where
  pub draining : last.draining ≡ true
  pub none : has_inserted given ≡ false

-- the answers of one step
module _ (t : Transition) (s : IsStep t.first t.entry.moment t.entry.seat t.entry.what t.outcome t.given t.last) where
  -- what the command itself does, and its answer
  abbrev act : Effect
  act = acted s.memory s.before t.entry.seat t.entry.what

  abbrev own : List GivenAnswer
  own = addressed t.entry.seat act.answer

  abbrev timed : Machine
  timed = forgetting (after_timers (at_moment t.entry.moment t.first))

  tells : Tells s.before t.entry.seat t.entry.what act
  tells = tells_acted s.memory s.before t.entry.seat t.entry.what

  drains_then : act.machine.draining ≡ true → t.last.draining ≡ true
  drains_then drains = grind (arith, of_serves steady s.after s.handed_then s.ended_then t.last s.serves_then)

  none_behind : has_inserted (s.handed_then ++ s.ended_then) ≡ false
  none_behind = none_served _ (of_serves serving s.after s.handed_then s.ended_then t.last s.serves_then)

  given_is : t.given ≡ (s.handed ++ s.ended) ++ own ++ (s.handed_then ++ s.ended_then)
  given_is = s.answers_are ∙ append_assoc (s.handed ++ s.ended ++ own) s.handed_then s.ended_then

  drained_step : act.machine.draining ≡ true → has_inserted own ≡ false → StaysDraining t.given t.last
  drained_step drains none =
      let before = of_serves serving timed s.handed s.ended s.before s.serves in
      grind (arith, drains_then, given_is, none_joined, none_served, none_behind)

  stays_draining : t.first.draining ≡ true → StaysDraining t.given t.last
  stays_draining d =
      let before : s.before.draining ≡ true = (of_serves steady timed s.handed s.ended s.before s.serves).draining ∙ d in
      search (drained_step, drains_acted, tells, arith, common_steps, or_from, both_ways)

-- where an answer of a step comes from: the first dispatch, the second, the end of a wait, or the command itself
data Place (t : Transition) (s : IsStep t.first t.entry.moment t.entry.seat t.entry.what t.outcome t.given t.last)
    (early : List GivenAnswer) (g : GivenAnswer) (more : List GivenAnswer) : Type 0 where
  in_handed : (rest : List GivenAnswer) → IsServed g → s.handed ≡ early ++ g ∷ rest → Place t s early g more
  in_handed_then : (begin rest : List GivenAnswer) → IsServed g → early ≡ s.handed ++ s.ended ++ own t s ++ begin
      → s.handed_then ≡ begin ++ g ∷ rest → Place t s early g more
  in_ended : IsCommon g → Place t s early g more
  in_own : early ≡ s.handed ++ s.ended → more ≡ s.handed_then ++ s.ended_then → g.0 ≡ t.entry.seat → (act t s).answer ≡ Some g.1
      → Place t s early g more

module _ (t : Transition) (s : IsStep t.first t.entry.moment t.entry.seat t.entry.what t.outcome t.given t.last) where
  place : (early : List GivenAnswer) (g : GivenAnswer) (more : List GivenAnswer) → t.given ≡ early ++ g ∷ more → Place t s early g more
  place early g more e =
      let v = s.serves in
      let w = s.serves_then in
      elim (split_at (s.handed ++ s.ended ++ own t s ++ s.handed_then) s.ended_then early g more (sym s.answers_are ∙ e)) [
        | inl (rest, is, later) ↦ elim (split_at (s.handed ++ s.ended ++ own t s) s.handed_then early g rest is) [
          | inl (rest, is, then) ↦ elim (split_at (s.handed ++ s.ended) (own t s) early g rest is) [
            | inl (rest, is, _) ↦ elim (split_at s.handed s.ended early g rest is) [
              | inl (rest, is, _) ↦ in_handed rest (all_in_place IsServed s.handed early g rest is
                  (of_dispatches serving _ _ _ v.dispatches)) is
              | inr (begin, _, is) ↦ in_ended (all_in_place IsCommon s.ended begin g _ is (ends_common _ _ _ v.ends_waits))
            ]
            | inr (begin, from, is) ↦ grind (arith, own_place, append-nil, in_own)
          ]
          | inr (begin, from, is) ↦ in_handed_then begin rest (all_in_place IsServed s.handed_then begin g rest is
              (of_dispatches serving _ _ _ w.dispatches)) from is
        ]
        | inr (begin, _, is) ↦ in_ended (all_in_place IsCommon s.ended_then begin g more is (ends_common _ _ _ w.ends_waits))
      ]

  -- An INSERTED or DELETED is the command's own answer.
  own_only : (early : List GivenAnswer) (g : GivenAnswer) (more : List GivenAnswer) → Place t s early g more → is_served g.1 ≡ false
      → (g.0 ≡ t.entry.seat) × ((act t s).answer ≡ Some g.1)
  own_only early g more p apart = grind (arith, common_steps, cases_Bool)

  -- Each RESERVED of a step is one of three: the command's own, or dispatch gives it, before or after the command.
  step_gives_least : GivesLeast (record t { parts = parts_of s })
  step_gives_least early more seat id body split = elim (place early (seat, answers.Reserved id body) more split) [
    | in_handed rest served is ↦ inr (inl (dispatched_least (timed t s) [] s.handed early rest early seat id body s.serves.between
        s.serves.dispatches is refl))
    | in_handed_then begin rest served is then ↦ inr (inr (dispatched_least s.after (s.handed ++ s.ended ++ own t s) s.handed_then
        begin rest early seat id body s.serves_then.between s.serves_then.dispatches then is))
    | in_ended common ↦ absurd cc
    | in_own is later by answer ↦ grind (arith, tells t s)
  ]

  -- after the answer to the put of the last id
  after_last_at : (early : List GivenAnswer) (by : ℕ) (more : List GivenAnswer) → t.given ≡ early ++ (by, answers.Inserted last_id) ∷ more
      → StaysDraining more t.last
  after_last_at early by more split =
      grind (arith, common_steps, place early (by, answers.Inserted last_id) more, drains_then t s, tells t s, none_behind t s)

  deletion_at : (seat : ℕ) → Contains t.given (seat, answers.Deleted) → IsDeletion (record t { parts = parts_of s }) seat
  deletion_at seat i =
      let at = placed t.given (seat, answers.Deleted) i in
      let own = own_only at.0 (seat, answers.Deleted) at.1 (place at.0 (seat, answers.Deleted) at.1 at.2) refl in
      rw own.0 (of_own (tells t s) own.1)
    where
      of_own : Tells s.before t.entry.seat t.entry.what (act t s) → (act t s).answer ≡ Some answers.Deleted
          → IsDeletion (record t { parts = parts_of s }) t.entry.seat
      of_own (commonly common honest) is = absurd cc
      of_own (reserving id body asks says) is = absurd cc
      of_own (inserting says accepts drains) is = absurd cc
      of_own (deleting id j asks is_found free says jobs) is =
          let found = found_job id s.before.jobs j is_found in
          let left : s.after.jobs ≡ filter (λ k. not (k.id == j.id)) s.before.jobs = ap (λ (l : Machine). l.jobs) s.acts ∙ jobs in
          let passes = filter_passes (λ l. not (l.id == j.id)) s.before.jobs in
          record {
            id = id;
            job = j;
            asks = asks;
            by = refl;
            there = found.1;
            id_is = found.0;
            free = free;
            gone = λ k i. rw found.0 at (All-contains (λ (l : Job). not (l.id == j.id) ≡ true) _ k passes (rw left at i));
          }

-- each step of a run
pub step_of_run : (first : Machine) (taken : List Transition) (last : Machine) → GoesBy first taken last → All IsTransition taken
step_of_run first [] last goes = tt
step_of_run first (t ∷ taken) last goes = (goes.1, step_of_run t.last taken last goes.2)

each_step : (P : Transition → Type 0)
    → ((t : Transition) (s : IsStep t.first t.entry.moment t.entry.seat t.entry.what t.outcome t.given t.last)
    → P (record t { parts = parts_of s })) → (first : Machine) (taken : List Transition) (last : Machine) (t : Transition)
    → GoesBy first taken last → Contains taken t → P t
each_step P holds first taken last t goes i =
    let is = all_at IsTransition taken t (step_of_run first taken last goes) i in rw is.parts_are (holds t is.step)

pub run_gives_least : (first : Machine) (taken : List Transition) (last : Machine) (t : Transition) → GoesBy first taken last
    → Contains taken t → GivesLeast t
run_gives_least = each_step GivesLeast step_gives_least

pub run_deletes : (first : Machine) (taken : List Transition) (last : Machine) (t : Transition) (seat : ℕ) → GoesBy first taken last
    → Contains taken t → Contains t.given (seat, answers.Deleted) → IsDeletion t seat
run_deletes first taken last t seat goes i =
    each_step (λ t. Contains t.given (seat, answers.Deleted) → IsDeletion t seat) (λ t s. deletion_at t s seat) first taken last t goes i

pub none_while_draining : (first : Machine) (taken : List Transition) (last : Machine) → GoesBy first taken last → first.draining ≡ true
    → has_inserted (flat_map (λ (t : Transition). t.given) taken) ≡ false
none_while_draining first [] last goes d = refl
none_while_draining first (t ∷ taken) last goes d = grind (arith, stays_draining, none_joined, none_while_draining t.last taken last goes.2)

pub none_after_drain : (first : Machine) (early : List Transition) (t : Transition) (more : List Transition) (last : Machine)
    → GoesBy first (early ++ t ∷ more) last → t.entry.what ≡ steps.Drain
    → has_inserted (flat_map (λ (t : Transition). t.given) (t ∷ more)) ≡ false
none_after_drain first [] t more last goes drains = grind (arith, none_joined, none_while_draining, drained_step)
none_after_drain first (u ∷ early) t more last goes drains = none_after_drain u.last early t more last goes.2 drains

pub none_after_last_id : (first : Machine) (taken : List Transition) (last : Machine) (early : List GivenAnswer) (seat : ℕ)
    (more : List GivenAnswer) → GoesBy first taken last
    → flat_map (λ (t : Transition). t.given) taken ≡ early ++ (seat, answers.Inserted last_id) ∷ more → has_inserted more ≡ false
none_after_last_id first [] last [] seat more goes e = absurd cc
none_after_last_id first [] last (g ∷ early) seat more goes e = absurd cc
none_after_last_id first (t ∷ taken) last early seat more goes e =
    elim (split_at t.given (flat_map (λ (t : Transition). t.given) taken) early (seat, answers.Inserted last_id) more e) [
      | inl (rest, is, then) ↦ grind (arith, after_last_at t goes.1.step early seat rest is, none_joined, none_while_draining)
      | inr (begin, from, is) ↦ none_after_last_id t.last taken last begin seat more goes.2 is
    ]
