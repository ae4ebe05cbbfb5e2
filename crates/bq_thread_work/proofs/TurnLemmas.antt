-- How the turns of the core's driver combine.
use Rattle.std.proofs.Common.{◌≡◌, ℕ, ◌<◌, ◌⊎◌, Bool, true, false, List, [], ◌∷◌, ◌++◌, Option, length}
use Rattle.std.proofs.Common.{append-nil, refl, inl, inr, arith}
use Rattle.bq_job.specs.declared.step.Step.{Step}
use Rattle.bq_job.specs.declared.step.Step.TheVariants.{Tick}
use Rattle.bq_job.specs.machine.Dispatch.{GivenAnswer}
use Rattle.bq_job.specs.machine.Machine.{Machine}
use Rattle.bq_job.specs.promise.Runs.{Entry}
use Rattle.bq_host.specs.Meanings.{Clock, Core}
use Rattle.bq_host.specs.Timed.{HasHeard, IsReady, LooksAndSteps, PassesOver, TakesStep}
use Rattle.bq_host.specs.declared.timed_core.HeardClock.{HeardClock}
use Rattle.bq_host.specs.declared.timed_core.TimedCore.{TimedCore}
use Rattle.bq_thread_work.specs.CoreWork.{steps_made}
use Rattle.bq_thread_work.specs.Worked.{HasTicked, IsInOrder, TookOne, WorkWent, WorksOn, driver_state, gone_after}
use Rattle.bq_link.specs.EndStates.{CoreState}
use Rattle.bq_thread_work.specs.declared.core_work.yielding.Yielding.{Yielding}
use Rattle.bq_thread_work.specs.declared.core_work.core_driver.CoreDriver.{CoreDriver}
use Rattle.bq_host.proofs.TimedRunLemmas.{TimedRan, entry_of, machine_over, outs_over, timed_heard, timed_late, timed_over, timed_step}
use Rattle.bq_thread_work.proofs.WorkedLemmas.{pending_on, worked_inside, worked_step}

-- Nothing was done.
pub on_still : {C K : Type 0} (k : Core K) (c : Clock C) (h : CoreDriver C K) → IsInOrder k.machine h → WorksOn k c h h
on_still k c h order = grind arith

-- A wait was counted, then something was done, and its pace was noted.
pub on_paced : {C K : Type 0} (k : Core K) (c : Clock C) (old mid new : CoreDriver C K) (yielding : Yielding) → WorksOn k c mid new
    → mid ≡ record old { yielding = mid.yielding } → WorksOn k c old (record new { yielding = yielding })
on_paced k c old mid new yielding on paced = grind arith

-- One thing was done, and then another.
pub on_both : {C K : Type 0} (k : Core K) (c : Clock C) (old mid new : CoreDriver C K) → WorksOn k c old mid → WorksOn k c mid new
    → WorksOn k c old new
on_both k c old mid new a b = record { order = b.order; end = grind arith; settings = grind arith; work = grind arith }

-- The core did this by itself: it took a tick, or none.
on_timed : {C K : Type 0} (k : Core K) (c : Clock C) (old : CoreDriver C K) (t : TimedCore C K) (history : List Entry)
    (now : List GivenAnswer) → IsInOrder k.machine old → IsReady k.machine t
    → (k.machine t.core).settings ≡ (k.machine old.timed.core).settings → steps_made history ≡ []
    → old.sender.kept.items ++ t.outs.given ≡ (old.sender.kept.items ++ old.timed.outs.given) ++ now
    → TimedRan k c old.timed history now t → WorksOn k c old (record old { timed = t })
on_timed k c old t history now order ready same none pending r =
    record {
      order = record { ready = ready; sender = order.sender; many = order.many; all = order.all };
      end = (refl, refl);
      settings = same;
      work = λ settings from first w. (w.0 ++ r.0, r.1 first w.0 w.1, search worked_inside);
    }

-- The clock was read, and nothing else happened.
pub on_heard : {C K : Type 0} (k : Core K) (c : Clock C) (old : CoreDriver C K) (time : HeardClock C) (reading : Option ℕ)
    → IsInOrder k.machine old → HasHeard c.given old.timed.time reading time
    → WorksOn k c old (record old { timed = record old.timed { time = time } })
on_heard {C} {K} k c old time reading order h =
    let new : TimedCore C K = record old.timed { time = time } in
    grind (arith, on_timed k c old new [] [] order, timed_heard k c old.timed new (reading, h, refl), append-nil)

-- Time passed, and the core took a tick, or no step.
pub on_passed : {C K : Type 0} (k : Core K) (c : Clock C) (old : CoreDriver C K) (t : TimedCore C K) (ticks : Bool)
    → IsInOrder k.machine old → IsReady k.machine t → old.timed.outs.given ≡ []
    → (ticks ≡ false → PassesOver k c old.timed t) → (ticks ≡ true → LooksAndSteps k c old.timed 0 Tick t)
    → WorksOn k c old (record old { timed = t })
on_passed k c old t true order ready none over ticked =
    let late = ticked refl in
    on_timed k c old t (entry_of t.time.moment 0 Tick ∷ []) t.outs.given order ready (grind arith) refl (search pending_on)
    (timed_late k c old.timed t 0 Tick late)
on_passed k c old t false order ready none over ticked =
    let passed = over refl in
    let ran = timed_over k c old.timed t passed in
    grind (arith, on_timed k c old t [] [] order ready, machine_over k c old.timed t passed, outs_over k c old.timed t passed, append-nil)

-- The core found work after it had yielded.
pub work_after : {C K : Type 0} (machine : K → Machine) (old mid new : CoreDriver C K)
    → mid ≡ record old { timed = record old.timed { time = mid.timed.time }; yielding = mid.yielding }
    → TookOne mid.sender.end new.sender.end ⊎ HasTicked machine mid new → WorkWent machine old new
work_after machine old mid new yielded work = elim work [ inl t ↦ grind arith | inr more ↦ grind arith ]

-- The core took a step that arrived at its end.
pub on_step : {C K : Type 0} (k : Core K) (c : Clock C) (old new : CoreDriver C K) (end : CoreState) (step : ℕ × Step)
    → IsInOrder k.machine new → TakesStep k c old.timed step.0 step.1 new.timed
    → new.gone.flags.items ≡ gone_after step.0 step.1 old.gone.flags.items → new.sender ≡ record old.sender { end = end }
    → end ≡ record old.sender.end { taken = old.sender.end.taken ++ step ∷ [] } → step.0 < length old.sender.end.rings
    → old.timed.outs.given ≡ [] → WorksOn k c old new
on_step k c old new end step order t marked sender taken below none =
    record {
      order = order;
      end = grind arith;
      settings = t.settings;
      work = λ settings from first w.
          let r = timed_step k c old.timed new.timed step.0 step.1 t in (
            w.0 ++ r.0,
            r.1 first w.0 w.1,
            worked_step settings from w.0 r.0 (driver_state k old) (driver_state k new) new.timed.time.moment step.0 step.1
                new.timed.outs.given below w.2 r.2 (grind arith) (grind (arith, append-nil)) marked,
          );
    }
