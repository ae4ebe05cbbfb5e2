-- What a seat has done so far for its open connection.
use Rattle.std.specs.Prelude.{ℕ, ◌≡◌, List, [], ◌∷◌, ◌++◌, Option, Some, None}
use Rattle.bq_job.specs.declared.answer.Answer.{Answer}
use Rattle.bq_job.specs.declared.line_end.LineFault.{LineFault}
use Rattle.bq_job.specs.declared.line_end.LineFault.TheVariants as faults
use Rattle.bq_job.specs.declared.step.Step.{Step}
use Rattle.bq_job.specs.declared.step.Step.TheVariants.{Gone}
use Rattle.bq_job.specs.promise.LineSteps.{IsCutOff, LineSeen, answers_text}
use Rattle.bq_seat.specs.Past.{Awaited, Past, awaited_by, with_action}
use Rattle.bq_seat.specs.Finds.{Finds}
use Rattle.bq_seat.specs.SeatStands.{StandsFor, awaited}
use Rattle.bq_seat.specs.Served.{seen_line}
use Rattle.bq_seat.specs.declared.machine.Action.{Action}
use Rattle.bq_seat.specs.declared.machine.SeatMachine.{SeatMachine}
use Rattle.bq_line.specs.Carried.{with_part}
use Rattle.bq_line.specs.declared.attendant.SeatPhase.{SeatPhase}
use Rattle.bq_line.specs.declared.attendant.SeatPhase.TheVariants as phases

-- what was written of the answers that were given for writing: all of it, except after a write
-- fault
abbrev pub IsWrittenSo : Option LineFault → List Answer → List ℕ → Type 0
IsWrittenSo None handed written = written ≡ answers_text handed
IsWrittenSo (Some faults.Read) handed written = written ≡ answers_text handed
IsWrittenSo (Some faults.Write) handed written = IsCutOff handed written

-- An open connection while this action is carried out: the steps and answers submitted and taken
-- for it up to the event that the action answers.
pub record IsOnLine (max_job_size : ℕ) (machine : SeatMachine) (seen : LineSeen) (action : Action)
    (submitted : List Step) (taken : List Answer) : Type 0 where
  pub past : Past
  pub written : List ℕ
  pub submitted_is : past.steps ≡ submitted
  pub taken_is : taken ≡ past.mail ++ past.late_mail
  pub writes : IsWrittenSo past.fault past.written written
  pub seen_is : seen ≡ seen_line written past
  pub stands : StandsFor machine (with_action action past)
  pub found : Finds max_job_size action past
  pub awaits : awaited_by action ≡ Some (awaited machine)
  pub limit_is : machine.reader.max_job_size ≡ max_job_size

-- what was done for the open connection
abbrev pub IsAt : {L : Type 0} → (L → LineSeen) → ℕ → SeatMachine → SeatPhase L → List Step → List Answer → Type 0
IsAt seen max_job_size machine phases.Between submitted taken =
    (submitted ≡ []) × (taken ≡ []) × (awaited machine ≡ Awaited.ALine) × (machine.reader.max_job_size ≡ max_job_size)
IsAt seen max_job_size machine (phases.On line action sent) submitted taken =
    (first : LineSeen) × (seen line ≡ with_part action sent first) × IsOnLine max_job_size machine first action submitted taken
IsAt seen max_job_size machine phases.Leaving submitted taken = (submitted ≡ []) × (taken ≡ [])
IsAt seen max_job_size machine phases.Done submitted taken = (submitted ≡ Gone ∷ []) × (taken ≡ [])
