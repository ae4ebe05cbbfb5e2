-- The invariant of the lock's content holds after each operation.
use Rattle.std.proofs.Common.{◌≡◌, ℕ, ◌<◌, ◌≤◌, ◌⊎◌, Bool, true, false, not, List, [], ◌++◌}
use Rattle.std.proofs.Common.{Option, drop, length, map, refl, ap, arith, inl, inr}
use Rattle.std.specs.Prelude.{◌==◌, IfSome, IsNone, IsSome}
use Rattle.std.proofs.lemmas.Grind.{common_steps}
use Rattle.std.proofs.lemmas.Bool.{and_parts, cases_Bool, cases_lt, eqb-true, eqb-false}
use Rattle.std.proofs.lemmas.List.{get_or-set_other, get_or-set_same}
use Rattle.std.proofs.lemmas.List.{length-append, length-set, set_past}
use Rattle.bq_job.specs.declared.answer.Answer.{Answer}
use Rattle.bq_job.specs.declared.journal.Entry.{Entry}
use Rattle.bq_job.specs.declared.settings.Settings.{Settings}
use Rattle.bq_job.specs.declared.step.Step.{Step}
use Rattle.bq_job.specs.machine.Dispatch.{GivenAnswer}
use Rattle.bq_job.specs.beside.Lawful.{IsLawful}
use Rattle.bq_job.specs.machine.Machine.{new_machine}
use Rattle.bq_job.specs.beside.Replay.{outcome_of}
use Rattle.bq_job.specs.promise.Runs.{answers_to}
use Rattle.bq_job.specs.machine.Steps.{IsStep, Outcome}
use Rattle.bq_job.proofs.LawfulLemmas.{new_is_lawful}
use Rattle.bq_job.proofs.OneClientLemmas.{answers_append}
use Rattle.bq_job.proofs.ReplayLemmas.{replay_more}
use Rattle.bq_host.specs.Journals.{JournalState, with_entry, without_entry}
use Rattle.bq_host.specs.LastParts.{EndsWith, last_part}
use Rattle.bq_lock.specs.LockedState.{IsLawfulHold, IsReplayed, LockedState, new_locked, outbox_at, without_oldest}
use Rattle.bq_lock.specs.LockedSteps.{AreDelivered, IsAdded, IsLeftOut, TakesStepUnless}
use Rattle.bq_lock.proofs.DeliveryLemmas.{few_delivered, outbox_past}
use Rattle.bq_lock.proofs.LastPartLemmas.{ends_with_drop, ends_with_last, ends_with_more, ends_with_none, ends_with_then}

hold_first : (settings : Settings) (room : ℕ) → IsLawful (new_machine settings) → IsLawfulHold (new_locked settings room)
hold_first settings room lawful = grind (arith, common_steps)

-- The content of a new lock keeps the invariant.
pub hold_new : (settings : Settings) (room : ℕ) (l : LockedState) → l ≡ new_locked settings room → IsLawfulHold l
hold_new settings room l new = rw new (hold_first settings room (new_is_lawful settings))

-- after the delivery of answers, each outbox is a last part of all answers that were given to its
-- seat
ends_delivered : (so_far given : List GivenAnswer) (old new : List (List Answer)) (seat : ℕ) → AreDelivered given old new
    → EndsWith (answers_to seat so_far) (outbox_at seat old) → EndsWith (answers_to seat (so_far ++ given)) (outbox_at seat new)
ends_delivered so_far given old new seat d ends =
    elim (cases_lt seat (length old)) [
      | inl here ↦
          let whole : List Answer = outbox_at seat old ++ answers_to seat given in
          rw (d.each seat here, answers_append seat so_far given)
          (ends_with_then (answers_to seat so_far ++ answers_to seat given) whole (last_part 4 whole)
          (ends_with_more (answers_to seat so_far) (outbox_at seat old) (answers_to seat given) ends) (ends_with_last 4 whole))
      | inr past ↦ rw (outbox_past new seat (let m = d.many in omega (arith, m, past))) (ends_with_none (answers_to seat (so_far ++ given)))
    ]

-- The journal after a step, by whether there was a copy of the step for its entry.
pub noted_of : (copy : Option Step) (old : JournalState) (at seat : ℕ) (what : Step) (left_out unshared : Bool) (new : JournalState)
    → IfSome copy (λ step. step ≡ what) → (IsSome copy → length old.entries < old.capacity)
    → (IsNone copy → new ≡ without_entry old)
    → IfSome copy (λ step. new ≡ with_entry (record { moment = at; seat = seat; step = step; left_out = left_out }) unshared old)
    → IsAdded old (record { moment = at; seat = seat; step = what; left_out = left_out }) unshared new ⊎ IsLeftOut (IsNone copy) old new
noted_of copy old at seat what left_out unshared new same room without added = grind arith

-- The effect of a step whose answers were delivered and that was noted.
pub stepped : (copy : Option Step) (old new : LockedState) (at seat : ℕ) (what : Step) (left_out unshared : Bool) (given : List GivenAnswer)
    → IsStep old.machine at seat what (record { left_out = left_out; unshared = unshared }) given new.machine
    → AreDelivered given old.outboxes new.outboxes → new.answered ≡ map (λ (g : GivenAnswer). g.0) given
    → IfSome copy (λ step. step ≡ what) → (IsSome copy → length old.journal.entries < old.journal.capacity)
    → (IsNone copy → new.journal ≡ without_entry old.journal)
    → IfSome copy (λ step. new.journal
    ≡ with_entry (record { moment = at; seat = seat; step = step; left_out = left_out }) unshared old.journal)
    → TakesStepUnless (IsNone copy) old at seat what new
stepped copy old new at seat what left_out unshared given step delivered told same room without added = grind (arith, noted_of)

-- If the journal is complete after a step, it was complete before it, and no reference to a body
-- was refused in the step.
step_replayed : (old : LockedState) (at seat : ℕ) (what : Step) (new : LockedState) (outcome : Outcome) (given : List GivenAnswer)
    → IsStep old.machine at seat what outcome given new.machine → AreDelivered given old.outboxes new.outboxes
    → new.machine.settings ≡ old.machine.settings
    → (old.journal.whole ≡ true → IsReplayed old)
    → IsAdded old.journal (record { moment = at; seat = seat; step = what; left_out = outcome.left_out }) outcome.unshared new.journal
    → new.journal.whole ≡ true → IsReplayed new
step_replayed old at seat what new outcome given step delivered settings replayed added whole =
    let entry : Entry = record { moment = at; seat = seat; step = what; left_out = outcome.left_out } in
    let both = and_parts old.journal.whole (not outcome.unshared) (rw added.new_is at whole) in
    let shared : outcome.unshared ≡ false = grind (arith, common_steps, both) in
    let r = replayed both.0 in
    let named : outcome ≡ outcome_of entry = ap (λ (b : Bool). record { left_out = outcome.left_out; unshared = b }) shared in
    record {
      given = r.given ++ given;
      replay = grind (arith, replay_more);
      last_parts = λ other. ends_delivered r.given given old.outboxes new.outboxes other delivered (r.last_parts other);
    }

-- a step preserves the invariant
pub hold_step : (refused : Type 0) (old : LockedState) (at seat : ℕ) (what : Step) (new : LockedState) → IsLawfulHold old
    → IsLawful new.machine → new.machine.settings ≡ old.machine.settings
    → TakesStepUnless refused old at seat what new → IsLawfulHold new
hold_step refused old at seat what new h lawful settings taken = record {
  lawful = lawful;
  many = grind arith;
  few = few_delivered taken.given old.outboxes new.outboxes taken.delivered;
  replayed = λ whole. elim taken.noted [
    | inl added ↦ step_replayed old at seat what new taken.outcome taken.given taken.step taken.delivered settings h.replayed added whole
    | inr left ↦ grind arith
  ];
}

ends_fetched : (outboxes : List (List Answer)) (seat other : ℕ)
    → EndsWith (outbox_at other outboxes) (outbox_at other (without_oldest seat outboxes))
ends_fetched outboxes seat other =
    elim (cases_lt seat (length outboxes)) [
      | inl here ↦ elim (cases_Bool (other == seat)) [
        | inl e ↦ rw (eqb-true other seat e, get_or-set_same outboxes seat (drop 1 (outbox_at seat outboxes)) [] here)
            (ends_with_drop 1 (outbox_at seat outboxes))
        | inr e ↦ rw (get_or-set_other outboxes seat other (drop 1 (outbox_at seat outboxes)) [] (eqb-false other seat e)) ([], refl)
      ]
      | inr past ↦ rw (set_past outboxes seat (drop 1 (outbox_at seat outboxes)) past) ([], refl)
    ]

few_of_part : (xs part : List Answer) → EndsWith xs part → length xs ≤ 4 → length part ≤ 4
few_of_part xs part (front, is) few = grind (arith, length-append)

hold_without : (l : LockedState) (seat : ℕ) → IsLawfulHold l → IsLawfulHold (record l { outboxes = without_oldest seat l.outboxes })
hold_without l seat h = record {
  lawful = h.lawful;
  many = grind (arith, length-set);
  few = λ other. few_of_part (outbox_at other l.outboxes) _ (ends_fetched l.outboxes seat other) (h.few other);
  replayed = λ whole. let r = h.replayed whole in record {
    given = r.given;
    replay = r.replay;
    last_parts = λ other. ends_with_then (answers_to other r.given) (outbox_at other l.outboxes) _ (r.last_parts other)
        (ends_fetched l.outboxes seat other);
  };
}

-- a fetch preserves the invariant
pub hold_fetch : (old new : LockedState) (seat : ℕ) → new ≡ record old { outboxes = without_oldest seat old.outboxes } → IsLawfulHold old
    → IsLawfulHold new
hold_fetch old new seat fetched h = rw fetched (hold_without old seat h)
