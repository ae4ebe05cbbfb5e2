-- What a command may do: change the model and give an answer.
use Rattle.std.specs.Prelude.{ℕ, Bool, if◌then◌else◌, Option, Some, None}
use Rattle.bq_job.specs.{machine.{Changes.job_with, Machine.Machine}, Types.{Answer, Job}}
use Rattle.bq_job.specs.declared.answer.Answer.TheVariants as answers

-- the model after a command, and its answer if there is one
pub record Effect : Type 0 where
  pub machine : Machine
  pub answer : Option Answer

abbrev pub telling : Answer → Machine → Effect
telling answer m = record { machine = m; answer = Some answer }

abbrev pub silent : Machine → Effect
silent m = record { machine = m; answer = None }

abbrev pub on_found : (Job → Bool) → (Job → Effect) → Machine → Option Job → Effect
on_found passes act m None = telling answers.NotFound m
on_found passes act m (Some j) = if passes j then act j else telling answers.NotFound m

-- what a command does with the job of this id if it exists and passes the test; otherwise NOT_FOUND
abbrev pub on_job : ℕ → (Job → Bool) → (Job → Effect) → Machine → Effect
on_job id passes act m = on_found passes act m (job_with id m.jobs)

abbrev pub showing : Machine → Option Job → Effect
showing m None = telling answers.NotFound m
showing m (Some j) = telling (answers.Found j.id j.body) m
