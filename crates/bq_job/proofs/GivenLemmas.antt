-- What a run gives one seat: step by step of that seat, and to each of its connections.
use Rattle.std.proofs.Common.{◌≡◌, ℕ, ◌+◌, ◌≤◌, ◌<◌, Bool, true, false, ◌&&◌, not, List, [], ◌∷◌, ◌++◌}
use Rattle.std.proofs.Common.{map, length, refl, ap, ◌∙◌, arith, subst, inl, inr, append_assoc, rules}
use Rattle.std.proofs.lemmas.{Bool.{and_parts, both_ways, cases_Bool, eqb-true}, Grind.common_steps, List.length-append}
use Rattle.std.specs.{List.list_all, Prelude.◌==◌}
use Rattle.bq_job.specs.promise.{Entry, LineHeard, MayTellEnd, Run, answered_count, answers_to}
use Rattle.bq_job.specs.beside.{GetsAtMost, GetsClosed, GetsWhatWaits, GivesClient, IsLawful, owing}
use Rattle.bq_job.specs.machine.{GivenAnswer, IsStep, Outcome, has_closed, is_connected_at, Machine.Machine}
use Rattle.bq_job.specs.{promise.{is_gone, is_tick, steps_at, wanted}, Types.{Answer, Request, Step}}
use Rattle.bq_job.specs.declared.answer.Answer.TheVariants as answers
use Rattle.bq_job.specs.declared.step.Step.TheVariants as steps
use Rattle.bq_job.proofs.ClientStepLemmas.{asks_at_most, others_give, step_gives_client, step_settings, tick_gives_client}
use Rattle.bq_job.proofs.{LawfulLemmas.step_is_lawful, OneClientLemmas.answers_append}
use Rattle.bq_job.proofs.{OneClientLemmas.unclosed_append, RunLemmas.{run_first, run_of_none}}

-- the model serves this seat
pub record Serves (t : ℕ) (m : Machine) : Type 0 where
  pub lawful : IsLawful m
  pub within : t < m.settings.seats

serves_on : (t : ℕ) (m next : Machine) (at seat : ℕ) (what : Step) (outcome : Outcome) (given : List GivenAnswer) → Serves t m
    → IsStep m at seat what outcome given next → Serves t next
serves_on t m next at seat what outcome given s step =
    grind (arith, step_is_lawful m next at seat what outcome given s.lawful step, step_settings m next at seat what outcome given step)

-- What happens between the steps of a seat: its client gets at most what it waits for.
pub record Meanwhile (t : ℕ) (m next : Machine) (given : List Answer) : Type 0 where
  pub gets : GetsWhatWaits m next t given
  pub serves : Serves t m → Serves t next

-- a step of the seat, and what follows it
pub record Own (t : ℕ) (what : Step) (Rest : Machine → List Answer → Type 0) (m : Machine) (given : List Answer) : Type 0 where
  pub moment : ℕ
  pub outcome : Outcome
  pub now : List GivenAnswer
  pub next : Machine
  pub step : IsStep m moment t what outcome now next
  pub later : List Answer
  pub given_is : given ≡ answers_to t now ++ later
  pub rest : Rest next later

-- Other seats take steps, and this holds afterwards.
abbrev pub Later : ℕ → (Machine → List Answer → Type 0) → Machine → List Answer → Type 0
Later t Holds m given =
    (before : Machine) × (early rest : List Answer) × Meanwhile t m before early × (given ≡ early ++ rest) × Holds before rest

-- A run from this model as a seat sees it: the steps of the seat, and the answers that it is given.
abbrev pub Along : ℕ → List Step → Machine → List Answer → Type 0
Along t [] = Later t (λ m given. given ≡ [])
Along t (what ∷ more) = Later t (Own t what (Along t more))

elsewhere : (t : ℕ) (m next : Machine) (at seat : ℕ) (what : Step) (outcome : Outcome) (given : List GivenAnswer)
    → (not (is_tick what) && seat == t) ≡ false → IsStep m at seat what outcome given next → GetsWhatWaits m next t (answers_to t given)
elsewhere t m next at seat steps.Tick outcome given h step = tick_gives_client m next at seat t outcome given step
elsewhere t m next at seat what outcome given h step = search (rules, others_give)

nothing_yet : (t : ℕ) (m : Machine) → Meanwhile t m m []
nothing_yet t m = record { gets = record { count = omega arith; unclosed = refl; connected = refl }; serves = λ s. s }

meanwhile_then : (t : ℕ) (m n last : Machine) (xs ys : List Answer) → Meanwhile t m n xs → Meanwhile t n last ys
    → Meanwhile t m last (xs ++ ys)
meanwhile_then t m n last xs ys h i = grind (arith, common_steps, length-append, unclosed_append)

later_after : (t : ℕ) (Holds : Machine → List Answer → Type 0) (m n : Machine) (xs given : List Answer) → Meanwhile t m n xs
    → Later t Holds n given → Later t Holds m (xs ++ given)
later_after t Holds m n xs given h (before, early, rest, i, is, holds) =
    (before, xs ++ early, rest, meanwhile_then t m n before xs early h i, grind (arith, append_assoc), holds)

along_after : (t : ℕ) (ss : List Step) (m n : Machine) (xs given : List Answer) → Meanwhile t m n xs → Along t ss n given
    → Along t ss m (xs ++ given)
along_after t [] m n xs given h a = later_after t (λ m given. given ≡ []) m n xs given h a
along_after t (what ∷ ss) m n xs given h a = later_after t (Own t what (Along t ss)) m n xs given h a

pub run_along : (t : ℕ) (m last : Machine) (history : List Entry) (given : List GivenAnswer) → Run m history given last
    → Along t (steps_at t history) m (answers_to t given)
run_along t m last [] given r = (m, [], [], nothing_yet t m, ap (answers_to t) ((run_of_none m last given r).0), refl)
run_along t m last (e ∷ history) given r =
    let b = run_first m last e history given r in
    let rest = run_along t b.next last history b.more b.rest in
    let all = ap (answers_to t) b.given_is ∙ answers_append t b.now b.more in
    let serves : Serves t m → Serves t b.next = λ s. serves_on t m b.next e.moment e.seat e.what b.outcome b.now s b.step in
    elim (cases_Bool (not (is_tick e.what) && e.seat == t)) [
      | inl h ↦
          let own : e.seat ≡ t = eqb-true e.seat t (and_parts (not (is_tick e.what)) (e.seat == t) h).1 in
          let step = subst (λ n. IsStep m e.moment n e.what b.outcome b.now b.next) own b.step in
          let first : steps_at t (e ∷ history) ≡ e.what ∷ steps_at t history = grind (arith, common_steps, and_parts, cases_Bool) in
          rw first (
            m,
            [],
            answers_to t given,
            nothing_yet t m,
            refl,
            record {
              moment = e.moment;
              outcome = b.outcome;
              now = b.now;
              next = b.next;
              step = step;
              later = answers_to t b.more;
              given_is = all;
              rest = rest;
            },
          )
      | inr h ↦
          let gets = elsewhere t m b.next e.moment e.seat e.what b.outcome b.now h b.step in
          let same : steps_at t (e ∷ history) ≡ steps_at t history = grind (arith, common_steps, cases_Bool) in
          rw (same, all) (along_after t (steps_at t history) m b.next (answers_to t b.now) (answers_to t b.more)
          (record { gets = gets; serves = serves }) rest)
    ]

-- what a step of the seat gives its client
module _ {t : ℕ} {what : Step} {Rest : Machine → List Answer → Type 0} {m : Machine} {given : List Answer} (a : Own t what Rest m given)
    (s : Serves t m) where
  own_gives : GivesClient t m what a.now a.next
  own_gives = step_gives_client m a.next a.moment t what a.outcome a.now s.lawful s.within a.step

  serves_next : Serves t a.next
  serves_next = serves_on t m a.next a.moment t what a.outcome a.now s a.step

-- a request, or that the client sends no more
abbrev pub is_within : Step → Bool
is_within (steps.Ask request) = true
is_within steps.End = true
is_within _ = false

-- no client is connected at the seat, and none waits
pub record IsFree (t : ℕ) (m : Machine) : Type 0 where
  pub serves : Serves t m
  pub free : is_connected_at t m ≡ false
  pub owes : owing t m ≡ 0

-- The run goes on like that while no client is connected at the seat.
abbrev pub GoesOn : ℕ → List Step → List Answer → Type 0
GoesOn t ss given = (m : Machine) × IsFree t m × Along t ss m given

-- The connection at the seat ends: it got at most as many answers as it wanted, then a `Closed`,
-- and the run goes on.
pub record LineEnds (t : ℕ) (most : ℕ) (more : List Step) (given : List Answer) : Type 0 where
  pub part : List Answer
  pub later : List Answer
  pub given_is : given ≡ part ++ answers.Closed ∷ later
  pub unclosed : has_closed part ≡ false
  pub few : length part ≤ most
  pub goes : GoesOn t more later

-- the answers of a step of the seat, and those before it, in front of the rest of its connection
ends_after : {t : ℕ} {m before : Machine} {early later given : List Answer} {more : List Step} (less most : ℕ) (now : List Answer)
    → Meanwhile t m before early → has_closed now ≡ false → length early + (length now + less) ≤ most → given ≡ early ++ (now ++ later)
    → LineEnds t less more later → LineEnds t most more given
ends_after {early = early} less most now h unclosed few is r = record {
  part = early ++ (now ++ r.part);
  later = r.later;
  given_is = grind (arith, append_assoc);
  unclosed = grind (arith, unclosed_append, h.gets);
  few = let y = r.few in omega (arith, length-append early (now ++ r.part), length-append now r.part);
  goes = r.goes;
}

-- A client that is connected stays so until its connection ends.
line_ends : (t : ℕ) (ss more : List Step) (m : Machine) (given : List Answer) → Serves t m → is_connected_at t m ≡ true
    → list_all is_within ss ≡ true → Along t (ss ++ steps.Close ∷ more) m given → LineEnds t (owing t m + wanted ss) more given
line_ends t [] more m given s c w (before, early, rest, h, is, a) =
    let b = h.serves s in
    let g : GetsClosed before a.next t (answers_to t a.now) = own_gives a b (h.gets.connected ∙ c) in
    let free : IsFree t a.next = record { serves = serves_next a b; free = g.gone; owes = g.none } in
    ends_after 0 (owing t m + 0) g.early h g.unclosed (let x = h.gets.count in let y = g.count in omega arith)
    (grind (arith, append_assoc)) (record {
      part = [];
      later = a.later;
      given_is = refl;
      unclosed = refl;
      few = omega arith;
      goes = (a.next, free, a.rest);
    })
line_ends t (steps.Ask request ∷ ss) more m given s c w (before, early, rest, h, is, a) =
    let b = h.serves s in
    let g : GetsAtMost before a.next t request (answers_to t a.now) =
    asks_at_most before a.next a.moment t request a.outcome a.now b.lawful b.within (h.gets.connected ∙ c) a.step in
    ends_after (owing t a.next + wanted ss) (owing t m + wanted (steps.Ask request ∷ ss)) (answers_to t a.now) h g.unclosed
    (let x = h.gets.count in let y = g.count in omega arith) (is ∙ ap (λ (xs : List Answer). early ++ xs) a.given_is)
    (line_ends t ss more a.next a.later (serves_next a b) g.connected w a.rest)
line_ends t (steps.End ∷ ss) more m given s c w (before, early, rest, h, is, a) =
    let b = h.serves s in
    let g : GetsWhatWaits before a.next t (answers_to t a.now) = (own_gives a b).0 in
    ends_after (owing t a.next + wanted ss) (owing t m + wanted ss) (answers_to t a.now) h g.unclosed
    (let x = h.gets.count in let y = g.count in omega arith) (is ∙ ap (λ (xs : List Answer). early ++ xs) a.given_is)
    (line_ends t ss more a.next a.later (serves_next a b) (g.connected ∙ h.gets.connected ∙ c) w a.rest)
line_ends t (x ∷ ss) more m given s c w a = absurd (both_ways false refl w)

-- a connection from its beginning
pub whole_line : (t : ℕ) (ss more : List Step) (given : List Answer) → list_all is_within ss ≡ true
    → GoesOn t (steps.Connect ∷ (ss ++ steps.Close ∷ more)) given → LineEnds t (wanted ss) more given
whole_line t ss more given w (m, f, (before, early, rest, h, is, a)) =
    let b = h.serves f.serves in
    let g = own_gives a b (h.gets.connected ∙ f.free) in
    ends_after (owing t a.next + wanted ss) (wanted ss) (answers_to t a.now) h (rw g.0 refl)
    (let x = h.gets.count in let y = f.owes in let z = ap length g.0 in let u = g.1 in omega arith)
    (is ∙ ap (λ (xs : List Answer). early ++ xs) a.given_is) (line_ends t ss more a.next a.later (serves_next a b) g.2 w a.rest)

-- No answer comes after the last connection, if the steps only report that no more come.
pub nothing_behind : (t : ℕ) (ss : List Step) (m : Machine) (given : List Answer) → Serves t m → owing t m ≡ 0 → list_all is_gone ss ≡ true
    → Along t ss m given → given ≡ []
nothing_behind t [] m given s none gone (before, early, rest, h, is, a) = grind (arith, common_steps)
nothing_behind t (steps.Gone ∷ ss) m given s none gone (before, early, rest, h, is, a) =
    let g : GetsWhatWaits before a.next t (answers_to t a.now) = own_gives a (h.serves s) in
    grind (arith, common_steps, nothing_behind t ss a.next a.later (serves_next a (h.serves s)))
nothing_behind t (x ∷ ss) m given s none gone a = absurd (both_ways false refl gone)

pub wanted_append : (xs ys : List Step) → wanted (xs ++ ys) ≡ wanted xs + wanted ys
wanted_append [] ys = omega arith
wanted_append (steps.Ask r ∷ xs) ys = omega (arith, wanted_append xs ys)
wanted_append (step ∷ xs) ys = wanted_append xs ys

-- the requests of an open connection: they are within the connection, and want this many answers
pub within_asked : (asked : List Request) (told : List Step) → list_all is_within told ≡ true
    → list_all is_within (map steps.Ask asked ++ told) ≡ true
within_asked [] told h = h
within_asked (r ∷ asked) told h = within_asked asked told h

pub line_wants : (seen : LineHeard) (asked : List Request) (told : List Step) → MayTellEnd seen asked told
    → wanted (map steps.Ask asked ++ told) ≡ answered_count asked
line_wants seen asked told e =
    let none : wanted told ≡ 0 = grind (arith, common_steps, cases_Bool) in omega (arith, wanted_append (map steps.Ask asked) told)
