use Rattle.std.proofs.Common.{length}
use Rattle.bq_job.proofs.tube_name.+cmp_words.Given as goal

abbrev pub decreases-cmp_words : goal.decreases-cmp_words
decreases-cmp_words l = length l.bytes.now
