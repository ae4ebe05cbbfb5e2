-- The content of the lock, and its invariant.
use Rattle.std.specs.Prelude.{ℕ, true, ◌≡◌, ◌≤◌, List, [], Option, drop, length, replicate, slice_get, slice_index_or, slice_set}
use Rattle.bq_job.specs.declared.answer.Answer.{Answer}
use Rattle.bq_job.specs.declared.settings.Settings.{Settings}
use Rattle.bq_job.specs.machine.Dispatch.{GivenAnswer}
use Rattle.bq_job.specs.beside.Lawful.{IsLawful}
use Rattle.bq_job.specs.machine.Machine.{Machine, new_machine}
use Rattle.bq_job.specs.beside.Replay.{Replay}
use Rattle.bq_job.specs.promise.Runs.{answers_to}
use Rattle.bq_host.specs.Journals.{JournalState}
use Rattle.bq_host.specs.LastParts.{EndsWith}

pub record LockedState : Type 0 where
  pub machine : Machine
  -- the outbox of each seat
  pub outboxes : List (List Answer)
  -- the seats that received an answer from the last step
  pub answered : List ℕ
  pub journal : JournalState

abbrev pub locked_of : Machine → List (List Answer) → List ℕ → JournalState → LockedState
locked_of machine outboxes answered journal = record { machine = machine; outboxes = outboxes; answered = answered; journal = journal }

-- the content of a seat's outbox; it is empty if the seat does not exist
abbrev pub outbox_at : ℕ → List (List Answer) → List Answer
outbox_at seat outboxes = slice_index_or outboxes seat []

-- the oldest answer for a seat, if there is one
abbrev pub oldest_for : ℕ → List (List Answer) → Option Answer
oldest_for seat outboxes = slice_get (outbox_at seat outboxes) 0

-- the outboxes after this answer was taken out
abbrev pub without_oldest : ℕ → List (List Answer) → List (List Answer)
without_oldest seat outboxes = slice_set outboxes seat (drop 1 (outbox_at seat outboxes))

-- Each outbox holds at most four answers.
abbrev pub AreFew : List (List Answer) → Type 0
AreFew outboxes = (seat : ℕ) → length (outbox_at seat outboxes) ≤ 4

-- The content of a new lock.
abbrev pub new_locked : Settings → ℕ → LockedState
new_locked settings capacity = record {
  machine = new_machine settings;
  outboxes = replicate settings.seats [];
  answered = [];
  journal = record { entries = []; capacity = capacity; whole = true };
}

-- Replaying the journal leads to the model, and each outbox is a last part of the answers that the
-- replay gives to its seat.
pub record IsReplayed (l : LockedState) : Type 0 where
  pub given : List GivenAnswer
  pub replay : Replay l.machine.settings l.journal.entries given l.machine
  pub last_parts : (seat : ℕ) → EndsWith (answers_to seat given) (outbox_at seat l.outboxes)

-- the invariant of the lock's content
pub record IsLawfulHold (l : LockedState) : Type 0 where
  pub lawful : IsLawful l.machine
  pub many : length l.outboxes ≡ l.machine.settings.seats
  pub few : AreFew l.outboxes
  pub replayed : l.journal.whole ≡ true → IsReplayed l
