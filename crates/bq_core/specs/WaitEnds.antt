-- One wait ends.
use Rattle.std.specs.Prelude.{Some, [], false, slice_get, true, ℕ, ◌++◌, ◌∷◌, ◌≡◌}
use Rattle.bq_core_api.specs.Outbox.{Outbox}
use Rattle.bq_job.specs.{declared.answer.Answer.Answer, machine.{SeatRecord, end_of_wait, ends_waiting, is_waiting, with_seat}}
use Rattle.bq_job.specs.machine.{Machine.Machine, without_wait}

-- the wait of this client ended, and it was answered
pub record AddsWaitEnd (m : Machine) (s : SeatRecord) (old new : Outbox) (last : Machine) : Type 0 where
  pub ended : last ≡ with_seat s.number without_wait m
  pub added : new ≡ record old { given = old.given ++ (s.number, end_of_wait m s) ∷ [] }

-- the wait of the client at place k ended with this answer
abbrev pub EndsWait : Machine → ℕ → Answer → Outbox → Outbox → Machine → Type 0
EndsWait m k answer old new last =
    (s : SeatRecord) → slice_get m.seats k ≡ Some s → answer ≡ end_of_wait m s → AddsWaitEnd m s old new last

-- nothing happened
pub record IsAsBefore (m : Machine) (old new : Outbox) (last : Machine) : Type 0 where
  pub machine : last ≡ m
  pub outs : new ≡ old

-- what happens to a waiting client that is checked
pub record IsChecked (m : Machine) (s : SeatRecord) (old new : Outbox) (last : Machine) : Type 0 where
  pub ends : ends_waiting m s ≡ true → AddsWaitEnd m s old new last
  pub stays : ends_waiting m s ≡ false → IsAsBefore m old new last

-- the client at place k was checked, if it waits
abbrev pub Checks : Machine → ℕ → Outbox → Outbox → Machine → Type 0
Checks m k old new last =
    (s : SeatRecord) → slice_get m.seats k ≡ Some s → is_waiting s ≡ true → IsChecked m s old new last
