-- What holds when an action is given: the connection's past, including the event that the action
-- answers.
use Rattle.std.specs.Prelude.{ℕ, ◌≡◌, ◌≤◌, ◌+◌, false, List, length, None}
use Rattle.bq_job.specs.promise.LineSteps.{wanted}
use Rattle.bq_seat.specs.InTurn.{IsInTurn}
use Rattle.bq_seat.specs.Past.{Past}
use Rattle.bq_seat.specs.Served.{IsServed}
use Rattle.bq_seat.specs.declared.machine.Action.{Action}
use Rattle.bq_seat.specs.declared.machine.Action.TheVariants as actions

-- A step is submitted in its turn. When a read is given, the connection is not closed, its input
-- has not ended and nothing failed. When the mail is polled, at most one answer is outstanding.
-- When a write is given, the connection is not closed and nothing failed. When a connection has
-- ended, it was served, whatever bytes were written to it.
abbrev pub Finds : ℕ → Action → Past → Type 0
Finds max_job_size (actions.Submit step) p = IsInTurn step p.steps p.mail
Finds max_job_size actions.Read p = (p.closing ≡ false) × (p.ended ≡ false) × (p.fault ≡ None)
Finds max_job_size actions.PollMail p = wanted p.steps ≤ length p.mail + 1
Finds max_job_size (actions.Write answer) p = (p.closing ≡ false) × (p.fault ≡ None)
Finds max_job_size (actions.LineOver end) p = (written : List ℕ) → IsServed max_job_size written end p
Finds max_job_size actions.Stray p = Unit {0}
