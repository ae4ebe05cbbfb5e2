-- The state of a core with its clock, and the answers that no seat has taken yet.
use Rattle.std.specs.Prelude.{ℕ, ◌≡◌, ◌<◌, ◌≤◌, Bool, true, false, List, [], ◌∷◌, ◌++◌, Option, length, replicate, slice_index_or}
use Rattle.std.specs.Option.{option_to_list}
use Rattle.bq_job.specs.beside.NextDue.{next_due}
use Rattle.bq_job.specs.declared.answer.Answer.{Answer}
use Rattle.bq_job.specs.declared.settings.Settings.{Settings}
use Rattle.bq_job.specs.machine.Dispatch.{GivenAnswer}
use Rattle.bq_job.specs.machine.Machine.{Machine, new_machine}
use Rattle.bq_job.specs.promise.Runs.{answers_to}
use Rattle.bq_host.specs.Meanings.{Core}
use Rattle.bq_host.specs.TimedRuns.{TimedState}
use Rattle.bq_host.specs.declared.timed_core.TimedCore.{TimedCore}

pub record MailState : Type 0 where
  pub core : Machine
  -- the mail of each seat, and the answers that are not in it yet
  pub mails : List (List Answer)
  pub pending : List GivenAnswer
  -- true if it is known that all answers are in the mail
  pub delivered : Bool
  -- the latest moment of the clock
  pub heard : ℕ
  -- the most answers that a step can give
  pub most : ℕ
  -- the next due moment, if it is known, and the comparisons so far
  pub known : Bool
  pub due : Option ℕ
  pub compared : ℕ

-- of a core with its clock, an answer that is held back, and the mail of each seat
abbrev pub mail_state : {C K : Type 0} → Core K → TimedCore C K → Option GivenAnswer → List (List Answer) → Bool → MailState
mail_state k timed held_back mails delivered = record {
  core = k.machine timed.core;
  mails = mails;
  pending = option_to_list held_back ++ timed.outs.given;
  delivered = delivered;
  heard = timed.time.moment;
  most = timed.outs.most;
  known = timed.is_due_known;
  due = timed.due;
  compared = k.comparisons timed.core;
}

-- the core with its clock, without answers
abbrev pub timed_of : MailState → TimedState
timed_of d = record { core = d.core; heard = d.heard; known = d.known; compared = d.compared }

-- the answers that wait for a seat
abbrev pub waiting : ℕ → MailState → List Answer
waiting seat d = slice_index_or d.mails seat [] ++ answers_to seat d.pending

-- a new core, with no answers
pub record IsNewMailState (settings : Settings) (d : MailState) : Type 0 where
  pub core : d.core ≡ new_machine settings
  pub mails : d.mails ≡ replicate settings.seats []
  pub pending : d.pending ≡ []
  pub heard : d.heard ≡ 0
  pub room : settings.seats < d.most
  pub unknown : d.known ≡ false
  pub none_compared : d.compared ≡ 0

-- Each seat has its mail, there is room for the answers of a step, and the marks about answers and
-- the next due moment are right.
pub record IsInOrder (d : MailState) : Type 0 where
  pub many : length d.mails ≡ d.core.settings.seats
  pub room : d.core.settings.seats < d.most
  pub none_pending : d.delivered ≡ true → d.pending ≡ []
  pub due_is : d.known ≡ true → d.due ≡ next_due d.core

-- Answers moved from one place to another, which makes no difference to any seat.
pub record OnlyDelivers (first last : MailState) : Type 0 where
  pub rest : last ≡ record first { mails = last.mails; pending = last.pending; delivered = last.delivered }
  pub many : length last.mails ≡ length first.mails
  pub waiting_is : (seat : ℕ) → seat < length first.mails → waiting seat last ≡ waiting seat first

-- The oldest answer that is not in the mail waits for room: the mail of its seat is full.
abbrev pub IsHeldUp : MailState → Type 0
IsHeldUp d = (seat : ℕ) × (answer : Answer) × (more : List GivenAnswer) × (d.pending ≡ (seat, answer) ∷ more)
    × (4 ≤ length (slice_index_or d.mails seat []))
