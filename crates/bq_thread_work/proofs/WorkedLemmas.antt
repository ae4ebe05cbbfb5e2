-- How the core's work goes on, step by step.
use Rattle.std.proofs.Common.{◌≡◌, ℕ, ◌+◌, ◌<◌, Bool, true, false, List, [], ◌∷◌, ◌++◌, Option}
use Rattle.std.proofs.Common.{length, replicate, refl, sym, ap, ◌∙◌, ◌⊎◌, inl, inr, append-nil, append_assoc, arith}
use Rattle.std.specs.Prelude.{◌==◌, slice_index_or}
use Rattle.std.proofs.lemmas.{Bool.{cases_Bool, eqb-true}, Grind.common_steps}
use Rattle.bq_job.specs.declared.settings.Settings.{Settings}
use Rattle.bq_job.specs.declared.step.Step.{Step}
use Rattle.bq_job.specs.declared.step.Step.TheVariants.{Gone}
use Rattle.bq_job.specs.machine.Dispatch.{GivenAnswer}
use Rattle.bq_job.specs.promise.Runs.{Entry, answers_to}
use Rattle.bq_job.proofs.OneClientLemmas.{answers_append}
use Rattle.bq_link.specs.EndStates.{sent_to}
use Rattle.bq_link.specs.NewEnds.{IsNewCore}
use Rattle.bq_link.specs.Submissions.{AreBelow, steps_of}
use Rattle.bq_link.proofs.SubmissionLemmas.{below_push, of_other, of_own}
use Rattle.bq_host.specs.TimedRuns.{HasRun, new_timed}
use Rattle.bq_host.proofs.{HasComparedLemmas.compared_from, TimedRunLemmas.{entry_of, ran_none, ran_then}}
use Rattle.bq_thread_work.specs.CoreWork.{HasGone, IsCoreDone, no_ticks, steps_made}
use Rattle.bq_thread_work.specs.Flags.{AreAllSet}
use Rattle.bq_thread_work.specs.Worked.{HasWorked, DriverState, KnowsAll, gone_after}
use Rattle.bq_thread_work.specs.declared.core_work.gone_ends.GoneEnds.{GoneEnds}

made_more : (history more : List Entry) → steps_made (history ++ more) ≡ steps_made history ++ steps_made more
made_more history more = grind (arith, common_steps)

no_ticks_more : (all more : List (ℕ × Step)) → no_ticks (all ++ more) ≡ no_ticks all ++ no_ticks more
no_ticks_more [] more = refl
no_ticks_more (t ∷ all) more = grind (arith, common_steps, cases_Bool, no_ticks_more all more)

made_one : (at seat : ℕ) (what : Step) → steps_made (entry_of at seat what ∷ []) ≡ no_ticks ((seat, what) ∷ [])
made_one at seat what = grind (arith, common_steps, cases_Bool)

-- more steps were taken
still_gone : (t from : ℕ) (what : Step) (all : List (ℕ × Step)) → HasGone (steps_of t all) → HasGone (steps_of t (all ++ (from, what) ∷ []))
still_gone t from what all h =
    grind (arith, eqb-true, of_other, cases_Bool (from == t), of_own t what all, append_assoc h.0 (Gone ∷ h.1) (what ∷ []))

abbrev IsSet : List Bool → ℕ → Type 0
IsSet flags place = slice_index_or flags place false ≡ true

-- a flag that was not set before belongs to an end whose step said that it has gone
gone_only : (seat : ℕ) (what : Step) (flags : List Bool) (t : ℕ) → IsSet (gone_after seat what flags) t
    → IsSet flags t ⊎ ((t ≡ seat) × (what ≡ Gone))
gone_only seat what flags t set = grind (arith, common_steps)

marks : (seat : ℕ) (what : Step) (old new : List Bool) (all : List (ℕ × Step)) → new ≡ gone_after seat what old
    → ((t : ℕ) → IsSet old t → HasGone (steps_of t all)) → (t : ℕ) → IsSet new t → HasGone (steps_of t (all ++ (seat, what) ∷ []))
marks seat what old new all m h t set = elim (gone_only seat what old t (rw m at set)) [
  | inl before ↦ still_gone t seat what all (h t before)
  | inr now ↦ (steps_of t all, [], ap (λ (x : ℕ × Step). steps_of t (all ++ x ∷ [])) (λ i. (sym now.0 i, now.1 i)) ∙ of_own t Gone all)
]

-- What the core did, and what was sent, went on from what was done before.
worked_on : (settings : Settings) (from : ℕ) (readings reads : List (Option ℕ)) (o n : DriverState) (history : List Entry)
    (given : List GivenAnswer) → HasWorked settings from readings o → HasRun o.timed reads history given n.timed
    → n.end.rings ≡ o.end.rings → no_ticks n.end.taken ≡ no_ticks o.end.taken ++ steps_made history
    → AreBelow (length n.end.rings) n.end.taken
    → ((t : ℕ) → t < length o.end.rings → sent_to o.end t ++ answers_to t (o.pending ++ given) ≡ sent_to n.end t ++ answers_to t n.pending)
    → ((t : ℕ) → slice_index_or n.gone t false ≡ true → HasGone (steps_of t n.end.taken))
    → HasWorked settings from (readings ++ reads) n
worked_on settings from readings reads o n history given w ran rings taken below sent marked =
    let ran = ran_then (new_timed settings from) o.timed n.timed readings reads w.history history w.given given w.ran ran in
    grind (arith, common_steps, made_more, answers_append, append_assoc)

-- The core took a step that arrived at its end.
pub worked_step : (settings : Settings) (from : ℕ) (readings reads : List (Option ℕ)) (o n : DriverState) (at seat : ℕ) (what : Step)
    (now : List GivenAnswer)
    → seat < length o.end.rings → HasWorked settings from readings o
    → HasRun o.timed reads (entry_of at seat what ∷ []) now n.timed
    → n.end ≡ record o.end { taken = o.end.taken ++ (seat, what) ∷ [] } → n.pending ≡ o.pending ++ now
    → n.gone ≡ gone_after seat what o.gone → HasWorked settings from (readings ++ reads) n
worked_step settings from readings reads o n at seat what now below w ran end pending marked =
    let set = marks seat what o.gone n.gone o.end.taken marked w.marked in
    grind (arith, worked_on settings from readings reads o n (entry_of at seat what ∷ []) now w ran, made_one, no_ticks_more, below_push)

-- The core did this by itself, and no answer was sent: it took a tick, or none.
pub worked_inside : (settings : Settings) (from : ℕ) (readings reads : List (Option ℕ)) (o n : DriverState) (history : List Entry)
    (now : List GivenAnswer) → HasWorked settings from readings o → HasRun o.timed reads history now n.timed → steps_made history ≡ []
    → n.end ≡ o.end → n.pending ≡ o.pending ++ now → n.gone ≡ o.gone → HasWorked settings from (readings ++ reads) n
worked_inside settings from readings reads o n history now w ran none end pending gone =
    grind (arith, worked_on settings from readings reads o n history now w ran, append-nil)

-- While no end has gone, not all have.
pub known_none : (gone : GoneEnds) (n : ℕ) → gone.flags.items ≡ replicate (n + 1) false → gone.all ≡ false → KnowsAll gone
known_none gone n none not = grind arith

-- Nothing was done yet.
pub worked_none : (settings : Settings) (from : ℕ) (h : DriverState) (ends : ℕ) → h.timed ≡ new_timed settings from
    → IsNewCore ends h.end → h.pending ≡ [] → h.gone ≡ replicate ends false → HasWorked settings from [] h
worked_none settings from h ends timed new pending gone = grind (arith, common_steps, ran_none (new_timed settings from))

-- All is done.
pub worked_all : (settings : Settings) (from : ℕ) (readings : List (Option ℕ)) (h : DriverState) → HasWorked settings from readings h
    → h.pending ≡ [] → length h.end.rings ≡ settings.seats + 1
    → length h.gone ≡ settings.seats + 1 → AreAllSet h.gone → IsCoreDone settings readings h.end h.timed.core from h.timed.compared
worked_all settings from readings h w none ends many all =
    grind (arith, append-nil, compared_from (new_timed settings from) h.timed w.history w.given refl w.ran.compared)

-- new answers after those that are kept
pub pending_on : (kept same given now : List GivenAnswer) → kept ≡ same → given ≡ [] → kept ++ now ≡ (same ++ given) ++ now
pending_on kept same given now e none = grind (arith, append-nil)
