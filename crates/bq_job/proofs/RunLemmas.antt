-- Runs, one step at a time: a run of no steps, of a first step and of a last step, and two joined
-- runs.
use Rattle.std.proofs.Common.{◌++◌, ◌∷◌, ◌≡◌, List, [], ap, append_assoc, arith, flat_map, map, refl, sym}
use Rattle.std.proofs.lemmas.Grind.{common_steps}
use Rattle.bq_job.specs.machine.{GivenAnswer, IsStep, Machine.Machine, Outcome}
use Rattle.bq_job.specs.promise.{Entry, GoesBy, Run, Transition, parts_of}

-- A run begins with this step, and the rest is a run.
pub record Begins (first : Machine) (e : Entry) (history : List Entry) (given : List GivenAnswer) (last : Machine) : Type 0 where
  pub outcome : Outcome
  pub now : List GivenAnswer
  pub more : List GivenAnswer
  pub next : Machine
  pub step : IsStep first e.moment e.seat e.what outcome now next
  pub given_is : given ≡ now ++ more
  pub rest : Run next history more last

-- the step, as one that was taken
abbrev pub taken_as : (first : Machine) (e : Entry) (outcome : Outcome) (given : List GivenAnswer) (last : Machine)
    → IsStep first e.moment e.seat e.what outcome given last → Transition
taken_as first e outcome given last step =
    record { entry = e; first = first; parts = parts_of step; last = last; outcome = outcome; given = given }

pub run_none : (m : Machine) → Run m [] [] m
run_none m = ([], record { taken = []; goes = refl; history_is = refl; outcomes_are = refl; given_is = refl })

pub run_from : (first next last : Machine) (e : Entry) (history : List Entry) (outcome : Outcome) (now more : List GivenAnswer)
    → IsStep first e.moment e.seat e.what outcome now next → Run next history more last → Run first (e ∷ history) (now ++ more) last
run_from first next last e history outcome now more step (outcomes, r) = (
  outcome ∷ outcomes,
  record {
    taken = taken_as first e outcome now next step ∷ r.taken;
    goes = (refl, record { step = step; parts_are = refl }, r.goes);
    history_is = ap (λ (xs : List Entry). e ∷ xs) r.history_is;
    outcomes_are = ap (λ (xs : List Outcome). outcome ∷ xs) r.outcomes_are;
    given_is = ap (λ (xs : List GivenAnswer). now ++ xs) r.given_is;
  },
)

-- a run of these steps
pub run_of : (first last : Machine) (taken : List Transition) → GoesBy first taken last
    → Run first (map (λ t. t.entry) taken) (flat_map (λ t. t.given) taken) last
run_of first last taken goes =
    (map (λ t. t.outcome) taken, record { taken = taken; goes = goes; history_is = refl; outcomes_are = refl; given_is = refl })

pub run_of_none : (first last : Machine) (given : List GivenAnswer) → Run first [] given last → (given ≡ []) × (last ≡ first)
run_of_none first last given (outcomes, r) = of_taken r.taken r.goes r.history_is r.given_is
  where
    of_taken : (taken : List Transition) → GoesBy first taken last → map (λ t. t.entry) taken ≡ [] → flat_map (λ t. t.given) taken ≡ given
        → (given ≡ []) × (last ≡ first)
    of_taken [] goes e g = (sym g, goes)
    of_taken (t ∷ taken) goes e g = absurd cc

pub run_first : (first last : Machine) (e : Entry) (history : List Entry) (given : List GivenAnswer) → Run first (e ∷ history) given last
    → Begins first e history given last
run_first first last e history given (outcomes, r) = of_taken r.taken r.goes r.history_is r.given_is
  where
    of_taken : (taken : List Transition) → GoesBy first taken last → map (λ t. t.entry) taken ≡ e ∷ history
        → flat_map (λ t. t.given) taken ≡ given → Begins first e history given last
    of_taken [] goes h g = absurd cc
    of_taken (t ∷ taken) goes h g = grind (arith, common_steps, run_of)

pub run_append : (first next last : Machine) (history more : List Entry) (given later : List GivenAnswer) → Run first history given next
    → Run next more later last → Run first (history ++ more) (given ++ later) last
run_append first next last [] more given later r s = grind (arith, run_of_none first next given r)
run_append first next last (e ∷ history) more given later r s =
    let b = run_first first next e history given r in
    rw (b.given_is, append_assoc b.now b.more later)
    (run_from first b.next last e (history ++ more) b.outcome b.now (b.more ++ later) b.step
    (run_append b.next next last history more b.more later b.rest s))
