-- What dispatch and the ends of waits append to the answers.
use Rattle.std.specs.Prelude.{Bool, List, false, length, ℕ, ◌++◌, ◌+◌, ◌||◌, ◌≡◌, ◌≤◌}
use Rattle.bq_core_api.specs.Outbox.{Outbox}
use Rattle.bq_job.specs.{beside.waiting_count, machine.{Chain, GivenAnswer, Machine.Machine}}

-- Turns of this kind led from the first model to the last, and their answers were appended.
-- `refused` says what they mean for the mark of bodies that could not be shared. Each made a
-- waiting client stop waiting.
pub record Gives (Turn : Machine → GivenAnswer → Machine → Type 0) (refused : List GivenAnswer → Bool)
    (first last : Machine) (old new : Outbox) : Type 0 where
  pub given : List GivenAnswer
  pub turns : Chain Turn first given last
  pub added : new.given ≡ old.given ++ given
  pub most : new.most ≡ old.most
  pub left_out : new.left_out ≡ old.left_out
  pub unshared : new.unshared ≡ (old.unshared || refused given)
  pub taken : waiting_count last + length given ≤ waiting_count first

-- the ends of waits refuse no reference
abbrev pub none_refused : List GivenAnswer → Bool
none_refused given = false

-- there is room for an answer to each waiting client, and for `more` besides
abbrev pub HasRoom : ℕ → Machine → Outbox → Type 0
HasRoom more m outs = waiting_count m + length outs.given + more ≤ outs.most
