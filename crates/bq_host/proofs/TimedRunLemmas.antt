-- What a core with its clock did, one thing after another.
use Rattle.std.proofs.Common.{◌≡◌, ℕ, List, [], ◌∷◌, ◌++◌, Option, refl, ap, inr, append-nil, arith}
use Rattle.std.proofs.lemmas.Grind.{common_steps}
use Rattle.std.proofs.lemmas.List.{map-append}
use Rattle.bq_job.specs.declared.step.Step.{Step}
use Rattle.bq_job.specs.machine.Dispatch.{GivenAnswer}
use Rattle.bq_job.specs.promise.History.{ArePickedFrom, IsTimedFrom, last_heard, moment_heard, moments_heard}
use Rattle.bq_job.specs.promise.Runs.{Entry}
use Rattle.bq_job.proofs.RunLemmas.{run_append, run_from, run_none}
use Rattle.bq_line.specs.GivenReadings.{GaveReadings}
use Rattle.bq_host.specs.Meanings.{Clock, Core}
use Rattle.bq_host.specs.Timed.{KnowsDue, LooksAndSteps, OnlyHears, PassesOver, TakesStep}
use Rattle.bq_host.specs.TimedRuns.{HasRun, TimedState, timed_state}
use Rattle.bq_host.specs.declared.timed_core.TimedCore.{TimedCore}
use Rattle.bq_host.proofs.HasComparedLemmas.{compared_looked, compared_on, compared_step, compared_still}

abbrev pub entry_of : ℕ → ℕ → Step → Entry
entry_of at seat what = record { moment = at; seat = seat; what = what }

-- a clock that was not read gave no reading
pub gave_none : {C : Type 0} (given : C → List (Option ℕ) → C → Type 0) (clock : C) → GaveReadings given clock [] clock
gave_none given clock first before h = rw (append-nil before) h

pub gave_then : {C : Type 0} (given : C → List (Option ℕ) → C → Type 0) (a b c : C) (readings reads : List (Option ℕ))
    → GaveReadings given a readings b → GaveReadings given b reads c → GaveReadings given a (readings ++ reads) c
gave_then given a b c readings reads h i first before g = grind (arith, common_steps)

moments_append : (last : ℕ) (xs ys : List (Option ℕ))
    → moments_heard last (xs ++ ys) ≡ moments_heard last xs ++ moments_heard (last_heard last xs) ys
moments_append last [] ys = refl
moments_append last (x ∷ xs) ys = ap (λ ms. moment_heard last x ∷ ms) (moments_append (moment_heard last x) xs ys)

heard_append : (last : ℕ) (xs ys : List (Option ℕ)) → last_heard last (xs ++ ys) ≡ last_heard (last_heard last xs) ys
heard_append last [] ys = refl
heard_append last (x ∷ xs) ys = heard_append (moment_heard last x) xs ys

picked_later : (xs ms ns : List ℕ) → ArePickedFrom xs ns → ArePickedFrom xs (ms ++ ns)
picked_later xs [] ns h = h
picked_later [] (m ∷ ms) ns h = tt
picked_later (x ∷ xs) (m ∷ ms) ns h = inr (picked_later (x ∷ xs) ms ns h)

picked_append : (xs ys ms ns : List ℕ) → ArePickedFrom xs ms → ArePickedFrom ys ns → ArePickedFrom (xs ++ ys) (ms ++ ns)
picked_append [] ys ms ns h i = picked_later ys ms ns i
picked_append (x ∷ xs) ys [] ns h i = absurd h
picked_append (x ∷ xs) ys (m ∷ ms) ns h i = grind (arith, picked_append xs ys ms ns, picked_append (x ∷ xs) ys ms ns)

-- two parts of a history are timed by the readings of both
timed_on : (first next last : ℕ) (readings reads : List (Option ℕ)) (history more : List Entry)
    → IsTimedFrom first readings history next
    → IsTimedFrom next reads more last → IsTimedFrom first (readings ++ reads) (history ++ more) last
timed_on first next last readings reads history more a b = grind (arith, map-append, moments_append, picked_append, heard_append)

-- The core did nothing, and its clock was not read.
pub ran_none : (state : TimedState) → HasRun state [] [] [] state
ran_none state = grind (arith, common_steps)

-- One thing was done after another.
pub ran_then : (first next last : TimedState) (readings reads : List (Option ℕ)) (history more : List Entry)
    (given later : List GivenAnswer) → HasRun first readings history given next → HasRun next reads more later last
    → HasRun first (readings ++ reads) (history ++ more) (given ++ later) last
ran_then first next last readings reads history more given later a b = search (run_append, timed_on, compared_on)

module _ {C K : Type 0} (k : Core K) (c : Clock C) where
  -- The same with the clock, which gave the readings.
  abbrev pub TimedRan : TimedCore C K → List Entry → List GivenAnswer → TimedCore C K → Type 0
  TimedRan old history answers new = (readings : List (Option ℕ)) × GaveReadings c.given old.time.clock readings new.time.clock
      × HasRun (timed_state k old) readings history answers (timed_state k new)

  timed_then : (old mid new : TimedCore C K) (history more : List Entry) (answers later : List GivenAnswer)
      → TimedRan old history answers mid → TimedRan mid more later new → TimedRan old (history ++ more) (answers ++ later) new
  timed_then old mid new history more answers later a b = (a.0 ++ b.0, search gave_then, search ran_then)

  -- The core took a step.
  pub timed_step : (old new : TimedCore C K) (seat : ℕ) (what : Step) → TakesStep k c old seat what new
      → TimedRan old (entry_of new.time.moment seat what ∷ []) new.outs.given new
  timed_step old new seat what s = (
    s.reading ∷ [],
    s.time.gave,
    record {
      runs = rw (append-nil new.outs.given) at (run_from (k.machine old.core) (k.machine new.core) (k.machine new.core)
          (entry_of new.time.moment seat what) [] s.outcome new.outs.given [] s.step.step (run_none (k.machine new.core)));
      timed = grind arith;
      compared = compared_step (timed_state k old) (timed_state k new) new.time.moment seat what s.outcome new.outs.given s.step s.unknown;
    },
  )

  -- The core was asked for the next due moment, if it was not known.
  timed_looked : (old looked : TimedCore C K) → KnowsDue k old looked → TimedRan old [] [] looked
  timed_looked old looked l = (
    [],
    rw l.time (gave_none c.given old.time.clock),
    record {
      runs = rw l.same (run_none (k.machine old.core));
      timed = grind arith;
      compared = search compared_looked;
    },
  )

  -- The clock was read.
  pub timed_heard : (old new : TimedCore C K) → OnlyHears c.given old new → TimedRan old [] [] new
  timed_heard old new (reading, h, same) = (reading ∷ [], h.gave, rw same (search (run_none, compared_still)))

  -- Time passed, and no step was taken.
  pub timed_over : (old new : TimedCore C K) → PassesOver k c old new → TimedRan old [] [] new
  timed_over old new (looked, l, rest) =
      grind (arith, timed_looked old looked l, timed_heard looked new, timed_then old looked new [] [] [] [])

  -- Time passed, and the core took a step.
  pub timed_late : (old new : TimedCore C K) (seat : ℕ) (what : Step) → LooksAndSteps k c old seat what new
      → TimedRan old (entry_of new.time.moment seat what ∷ []) new.outs.given new
  timed_late old new seat what (looked, l, s) = grind (arith, timed_step looked new seat what s)

  -- If no step was taken, no answer was given, and the core represents the same model.
  pub outs_over : (old new : TimedCore C K) → PassesOver k c old new → new.outs ≡ old.outs
  outs_over old new (looked, l, rest) = grind arith

  pub machine_over : (old new : TimedCore C K) → PassesOver k c old new → k.machine new.core ≡ k.machine old.core
  machine_over old new (looked, l, rest) = grind arith
