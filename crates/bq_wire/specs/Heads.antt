-- The answers whose head is a word alone.
use Rattle.std.specs.Prelude.{Bool, true, false}
use Rattle.bq_job.specs.declared.answer.Answer.{Answer}
use Rattle.bq_job.specs.declared.answer.Answer.TheVariants as answers

-- The answer carries no number, body, text or name.
abbrev pub is_word : Answer → Bool
is_word (answers.Inserted id) = false
is_word (answers.Reserved id body) = false
is_word (answers.Found id body) = false
is_word (answers.Ok text) = false
is_word (answers.Using tube) = false
is_word (answers.Watching count) = false
is_word (answers.KickedCount count) = false
is_word _ = true
