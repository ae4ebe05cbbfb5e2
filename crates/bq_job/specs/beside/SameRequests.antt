-- How two readings of one text may differ.
use Rattle.std.specs.Prelude.{◌≡◌, ◌⊎◌, Bool, true, false, IsTrue, List, [], ◌∷◌}
use Rattle.bq_job.specs.declared.{refusal.Refusal.TheVariants.{ExpectedCrlf, OutOfMemory}, request.Request.Request}
use Rattle.bq_job.specs.declared.request.Request.TheVariants.{Put, Refused}

-- a put whose body was allocated, whether the body's end is right or wrong
abbrev pub had_memory : Request → Bool
had_memory (Put pri delay ttr body) = true
had_memory (Refused ExpectedCrlf) = true
had_memory _ = false

-- the allocation for the body failed only in the first reading
abbrev pub IsRefusedMemory : Request → Request → Type 0
IsRefusedMemory first second = (first ≡ Refused OutOfMemory) × IsTrue (had_memory second)

-- the same request, unless an allocation failed
abbrev pub IsSameRequest : Request → Request → Type 0
IsSameRequest first second = (first ≡ second) ⊎ (IsRefusedMemory first second ⊎ IsRefusedMemory second first)

-- equally many requests, each the same
abbrev pub AreSameRequests : List Request → List Request → Type 0
AreSameRequests [] [] = Unit {0}
AreSameRequests (first ∷ firsts) (second ∷ seconds) = IsSameRequest first second × AreSameRequests firsts seconds
AreSameRequests _ _ = ⊥
