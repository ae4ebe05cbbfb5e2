use Rattle.std.proofs.Common.{◌≡◌, ◌<◌, ℕ, false, true, slice_index_or}
use Rattle.bq_thread_work.proofs.core_work.gone_ends.are_all_set.Given as goal

abbrev pub invariant-loop-place : goal.invariant-loop-place
invariant-loop-place l = (place : ℕ) → place < l.place → slice_index_or l.flags place false ≡ true
