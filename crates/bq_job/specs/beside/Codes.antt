-- The numbers of refusals.
use Rattle.std.specs.Prelude.{ℕ, Option, Some, None}
use Rattle.bq_job.specs.Types.{Answer, Refusal}
use Rattle.bq_job.specs.declared.refusal.Refusal.TheVariants as refusals
use Rattle.bq_job.specs.declared.answer.Answer.TheVariants as answers

abbrev pub refusal_code : Refusal → ℕ
refusal_code refusals.UnknownCommand = 101
refusal_code refusals.BadFormat = 102
refusal_code refusals.JobTooBig = 103
refusal_code refusals.ExpectedCrlf = 104
refusal_code refusals.OutOfMemory = 105

abbrev pub answer_code : Answer → Option ℕ
answer_code answers.UnknownCommand = Some 101
answer_code answers.BadFormat = Some 102
answer_code answers.JobTooBig = Some 103
answer_code answers.ExpectedCrlf = Some 104
answer_code answers.NotFound = Some 201
answer_code answers.NotIgnored = Some 202
answer_code answers.Draining = Some 203
answer_code answers.OutOfMemory = Some 204
answer_code answers.TimedOut = Some 205
answer_code answers.DeadlineSoon = Some 206
answer_code _ = None
