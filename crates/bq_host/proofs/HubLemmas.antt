-- What happens at a hub, step by step.
use Rattle.bq_host.proofs.TraceLemmas.{none_held_back, seat_delivered, seat_none, seat_on, seat_stepped, seat_took}
use Rattle.std.proofs.Common.{◌≡◌, ℕ, ◌&&◌, Bool, true, false, not, List, [], ◌∷◌, ◌++◌, arith}
use Rattle.std.proofs.lemmas.Grind.{common_steps}
use Rattle.std.proofs.Common.{Option, refl}
use Rattle.std.specs.Prelude.{if◌then◌else◌, slice_index_or}
use Rattle.std.specs.Option.{option_to_list}
use Rattle.bq_job.specs.declared.answer.Answer.{Answer}
use Rattle.bq_job.specs.declared.step.Step.{Step}
use Rattle.bq_job.specs.declared.step.Step.TheVariants.{Tick}
use Rattle.bq_job.specs.machine.Dispatch.{GivenAnswer}
use Rattle.bq_job.specs.promise.History.{is_tick}
use Rattle.bq_line.specs.Links.{Calls}
use Rattle.bq_host.specs.Clocks.{Gives}
use Rattle.bq_host.specs.Hubs.{HubTrace, KeepsFresh, OnlyMoves, TraceInOrder, state_of, with_pending}
use Rattle.bq_host.specs.MailStates.{IsInOrder, OnlyDelivers}
use Rattle.bq_host.specs.Meanings.{Clock, Core}
use Rattle.bq_host.specs.Timed.{IsReady, LooksAndSteps, PassesOver}
use Rattle.bq_host.specs.WakeLists.{Wakes}
use Rattle.bq_host.specs.declared.{hub.Hub.Hub, timed_core.TimedCore.TimedCore}
use Rattle.bq_host.proofs.WakeLemmas.{wakes_none, wakes_then}
use Rattle.bq_host.proofs.MailLemmas.{seat_takes_pending}
use Rattle.bq_host.proofs.TimedRunLemmas.{TimedRan, entry_of, gave_none, gave_then, timed_late, timed_over}

-- The mark of a fresh reading is kept while answers move.
pub fresh_on : {C K : Type 0} (given : Gives C) (first next last : Hub C K) → KeepsFresh given first next → OnlyMoves next last
    → KeepsFresh given first last
fresh_on {C} {K} given first next last k m f = grind arith

module _ {C K : Type 0} (k : Core K) where
  -- A hub is in order if its core is ready and its marks about answers are right.
  pub order_ready : (first last : Hub C K) → IsReady k.machine last.timed
      → (k.machine last.timed.core).settings ≡ (k.machine first.timed.core).settings → last.mails ≡ first.mails
      → (last.all_delivered ≡ true → (state_of k last).pending ≡ []) → IsInOrder (state_of k first) → IsInOrder (state_of k last)
  order_ready first last ready settings mails none o = grind arith

  module _ (c : Clock C) where
    pub trace_none : (seat : ℕ) (hub : Hub C K) → HubTrace k c seat hub [] [] hub
    trace_none seat hub = grind (arith, common_steps, seat_none)

    pub trace_then : (seat other : ℕ) (first next last : Hub C K) (submitted more : List Step) (taken later : List Answer)
        → other ≡ seat → HubTrace k c seat first submitted taken next → HubTrace k c other next more later last
        → HubTrace k c seat first (submitted ++ more) (taken ++ later) last
    trace_then seat other first next last submitted more taken later same a b =
        let b' = rw same at b.0 in ((a.0.0 ++ b'.0, search gave_then, search seat_on), search wakes_then)

    pub trace_delivered : (seat : ℕ) (first last : Hub C K) → OnlyDelivers (state_of k first) (state_of k last)
        → last.timed.time.clock ≡ first.timed.time.clock → Wakes first.mails.items last.mails.items first.wake_queue last.wake_queue
        → HubTrace k c seat first [] [] last
    trace_delivered seat first last s same wakes = grind (arith, common_steps, seat_delivered)

    -- All answers at the hub are still there, in some place.
    pub trace_moved : (seat : ℕ) (first last : Hub C K) (held_back : Option GivenAnswer) (answers : List GivenAnswer) (delivered : Bool)
        → last ≡ with_pending held_back answers delivered first → (state_of k last).pending ≡ (state_of k first).pending
        → HubTrace k c seat first [] [] last
    trace_moved seat first last held_back answers delivered moved pending = trace_delivered seat first last (grind arith) (grind arith)
        (rw moved (wakes_none first.mails.items first.wake_queue))

    -- A seat without mail took the oldest answer.
    pub trace_taken : (seat : ℕ) (answer : Answer) (first last : Hub C K) (held_back : Option GivenAnswer) (answers : List GivenAnswer)
        (delivered : Bool) → last ≡ with_pending held_back answers delivered first → slice_index_or first.mails.items seat [] ≡ []
        → (state_of k first).pending ≡ (seat, answer) ∷ (state_of k last).pending → HubTrace k c seat first [] (answer ∷ []) last
    trace_taken seat answer first last held_back answers delivered moved empty pending = rw moved (
      ([], gave_none c.given first.timed.time.clock, seat_takes_pending (state_of k first) seat answer _ delivered empty (grind arith)),
      wakes_none first.mails.items first.wake_queue,
    )

    -- The core took a step, or a tick, while all answers so far were in the mail.
    pub trace_stepped : (seat at : ℕ) (what : Step) (old : Hub C K) (t : TimedCore C K) (marked : Bool)
        → TimedRan k c old.timed (entry_of at seat what ∷ []) t.outs.given t → (state_of k old).pending ≡ []
        → HubTrace k c seat old (if is_tick what then [] else what ∷ []) [] (record old { timed = t; all_delivered = marked })
    trace_stepped seat at what old t marked r empty =
        let none = none_held_back (option_to_list old.held_back) old.timed.outs.given empty in (
          (
            r.0,
            r.1,
            seat_stepped (state_of k old) (state_of k (record old { timed = t; all_delivered = marked })) seat at what r.0
                t.outs.given r.2 refl empty (grind arith),
          ),
          wakes_none old.mails.items old.wake_queue,
        )

    -- Time passed, and no step was taken.
    trace_over : (seat : ℕ) (old : Hub C K) (t : TimedCore C K) (marked : Bool) → PassesOver k c old.timed t
        → HubTrace k c seat old [] [] (record old { timed = t; all_delivered = marked })
    trace_over seat old t marked over = grind (arith, timed_over k c old.timed t over, seat_took)

    -- Time passed, and the core took a tick if something was due and it may.
    pub trace_passed : (old : Hub C K) (t : TimedCore C K) (may due : Bool) → IsReady k.machine t
        → (k.machine t.core).settings ≡ (k.machine old.timed.core).settings
        → ((may && due) ≡ false → PassesOver k c old.timed t) → ((may && due) ≡ true → LooksAndSteps k c old.timed 0 Tick t)
        → (may ≡ true → (state_of k old).pending ≡ []) → IsInOrder (state_of k old)
        → TraceInOrder k c 0 old [] [] (record old { timed = t; all_delivered = may && not due })
    trace_passed old t true true ready settings over ticked empty o = (
      grind arith,
      trace_stepped 0 t.time.moment Tick old t false (timed_late k c old.timed t 0 Tick (ticked refl)) (empty refl),
    )
    trace_passed old t may due ready settings over ticked empty o = grind (arith, trace_over 0 old t may)

    -- What a seat did, whether its link to the hub was used or not.
    pub called : (seat : ℕ) (first last : Hub C K) (submitted : List Step) (taken : List Answer)
        → Calls (HubTrace k c seat) first submitted taken last → HubTrace k c seat first submitted taken last
    called seat first last submitted taken h = grind (arith, trace_none seat first)
