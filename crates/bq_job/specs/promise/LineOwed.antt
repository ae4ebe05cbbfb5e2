-- What a client's connection is owed, and the connections of a door one after another.
use Rattle.std.specs.Prelude.{ℕ, false, ◌≡◌, List, [], ◌∷◌, ◌++◌}
use Rattle.bq_job.specs.{declared.answer.Answer.TheVariants.Closed, machine.has_closed, promise.History.LineOver}
use Rattle.bq_job.specs.{promise.LineSteps.{AreAllAnswered, IsStepsOfLine, IsWritten, heard}, Types.{Answer, Step}}

-- One connection that has ended. These are its steps, each request was answered, and the client
-- received exactly what it is owed of these answers.
pub record IsLineOwed (max_job_size : ℕ) (line : LineOver) (taken : List Step) (answers : List Answer) : Type 0 where
  pub steps : IsStepsOfLine max_job_size (heard line.seen) line.over taken
  pub answered : AreAllAnswered line.over steps.asked answers
  pub written : IsWritten line.over steps.asked answers line.seen.written

-- Connections one after another. The answers to each are those up to the `Closed` of its close.
abbrev pub AreLinesOwed : ℕ → List LineOver → List Step → List Answer → Type 0
AreLinesOwed max_job_size [] taken answers = (taken ≡ []) × (answers ≡ [])
AreLinesOwed max_job_size (line ∷ lines) taken answers =
    (own more : List Step) × (got later : List Answer)
    × IsLineOwed max_job_size line own got × (has_closed got ≡ false) × (taken ≡ own ++ more) × (answers ≡ got ++ Closed ∷ later)
    × AreLinesOwed max_job_size lines more later
