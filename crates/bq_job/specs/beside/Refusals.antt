-- Answers that say that a command was not carried out.
use Rattle.std.specs.Prelude.{ℕ, Bool, true, false, ◌≡◌, List, [], ◌∷◌, ◌++◌}
use Rattle.bq_job.specs.{machine.{GivenAnswer, acted, Machine.Machine}, promise.Parts, Types.{Answer, Step}}
use Rattle.bq_job.specs.declared.answer.Answer.TheVariants as answers

abbrev pub is_refusal : Answer → Bool
is_refusal answers.UnknownCommand = true
is_refusal answers.BadFormat = true
is_refusal answers.JobTooBig = true
is_refusal answers.ExpectedCrlf = true
is_refusal answers.OutOfMemory = true
is_refusal answers.NotFound = true
is_refusal answers.NotIgnored = true
is_refusal answers.Draining = true
is_refusal _ = false

-- The command changed nothing: the step with these parts is that of a tick, except for its last
-- answer.
pub record ChangesNothing (parts : Parts) (seat : ℕ) (what : Step) (answer : Answer)
    (given : List GivenAnswer) (last : Machine) : Type 0 where
  pub machine : (acted parts.memory parts.before seat what).machine ≡ parts.before
  pub last_is : last ≡ parts.before
  pub given_is : given ≡ parts.handed ++ parts.ended ++ (seat, answer) ∷ []
