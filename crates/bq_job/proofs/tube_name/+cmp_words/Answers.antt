use Rattle.bq_job.proofs.NameWords.{words, words_same}
use Rattle.std.proofs.{Common.arith, lemmas.Grind.common_steps}
use Rattle.bq_job.proofs.NameWords.{words_decide}
use Rattle.bq_job.proofs.tube_name.+cmp_words.Goals as goal

pub returns-then-word-other : goal.returns-then-word-other
returns-then-word-other t c = grind (arith, common_steps, words_same, words)

pub returns-else-word-other : goal.returns-else-word-other
returns-else-word-other t c = grind (arith, common_steps, words_decide)
