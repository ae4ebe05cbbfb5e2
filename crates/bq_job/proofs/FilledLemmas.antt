-- Bytes at the front of an array of zeros.
use Rattle.std.proofs.{Common.{◌++◌, ◌≡◌, ◌≤◌, List, ℕ, drop, length, refl, replicate}, lemmas.List.drop-replicate}
use Rattle.bq_job.specs.reading.TubeName.{filled_up}

pub filled_front : (front bytes : List ℕ) → front ≡ bytes → length bytes ≤ 200
    → front ++ drop (length bytes) (replicate 200 0) ≡ filled_up bytes
filled_front front bytes same fits = rw (same, drop-replicate) refl
