-- Answers on their way to the ends.
use Rattle.std.specs.Prelude.{ℕ, ◌≡◌, ◌⊎◌, ◌<◌, ◌≤◌, ◌++◌, List, [], length}
use Rattle.std.specs.VecDeque.{deque_capacity}
use Rattle.bq_job.specs.machine.Dispatch.{GivenAnswer}
use Rattle.bq_job.specs.promise.Runs.{answers_to}
use Rattle.bq_link.specs.EndStates.{CoreState, room_for, sent_to}
use Rattle.bq_thread_work.specs.declared.core_work.sender.Sender.{Sender}

-- Some of these answers were sent, and the others are left. Each end sees its answers in order.
pub record AreSent (old : CoreState) (before : List GivenAnswer) (new : CoreState) (after : List GivenAnswer) : Type 0 where
  pub intake : new.intake ≡ old.intake
  pub rings : new.rings ≡ old.rings
  pub taken : new.taken ≡ old.taken
  pub each : (seat : ℕ) → seat < length old.rings
      → sent_to new seat ++ answers_to seat after ≡ sent_to old seat ++ answers_to seat before

-- If an answer is kept for an end, the ring of that end was full when it was last tried.
abbrev pub AreStuck : CoreState → List GivenAnswer → Type 0
AreStuck end kept = (seat : ℕ) → (answers_to seat kept ≡ []) ⊎ (room_for end seat ≡ 0)

-- There is room to keep as many answers as there are ends.
pub record HasPlaces (s : Sender) : Type 0 where
  pub ends : length s.end.rings ≡ s.ends
  pub for_kept : s.ends ≤ deque_capacity s.kept
  pub for_aside : s.ends ≤ deque_capacity s.aside

-- Between two calls no answer is set aside.
pub record IsAtRest (s : Sender) : Type 0 where
  pub places : HasPlaces s
  pub few : length s.kept.items ≤ s.ends
  pub none_aside : s.aside.items ≡ []
