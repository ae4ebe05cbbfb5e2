-- What the answers of a step say of its put.
use Rattle.std.specs.Prelude.{Bool, false, true, List}
use Rattle.std.specs.List.{list_any}
use Rattle.bq_job.specs.declared.answer.Answer.{Answer}
use Rattle.bq_job.specs.declared.answer.Answer.TheVariants as answers
use Rattle.bq_job.specs.machine.Dispatch.{GivenAnswer}
use Rattle.bq_job.specs.machine.Steps.{is_out_of_memory}

abbrev pub is_inserted : Answer → Bool
is_inserted (answers.Inserted id) = true
is_inserted _ = false

-- whether one of the answers is that a job was put
abbrev pub has_inserted : List GivenAnswer → Bool
has_inserted given = list_any (λ g. is_inserted g.1) given

-- whether one of the answers is OUT_OF_MEMORY
abbrev pub has_out_of_memory : List GivenAnswer → Bool
has_out_of_memory given = list_any (λ g. is_out_of_memory g.1) given
