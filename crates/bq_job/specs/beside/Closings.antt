-- How often clients close, and how often they are answered `Closed`.
use Rattle.std.specs.Prelude.{ℕ, suc, List, [], ◌∷◌}
use Rattle.bq_job.specs.Types.{Answer, Step}
use Rattle.bq_job.specs.declared.answer.Answer.TheVariants as answers
use Rattle.bq_job.specs.declared.step.Step.TheVariants as steps

-- how many of the answers are `Closed`
abbrev pub closes : List Answer → ℕ
closes [] = 0
closes (answers.Closed ∷ given) = suc (closes given)
closes (answer ∷ given) = closes given

-- how many of the steps close a connection
abbrev pub closings : List Step → ℕ
closings [] = 0
closings (steps.Close ∷ taken) = suc (closings taken)
closings (step ∷ taken) = closings taken
