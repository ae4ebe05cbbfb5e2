-- The body of a put, as far as it has arrived.
use Rattle.std.specs.Prelude.{ℕ, ◌≡◌, ◌≤◌, ◌+◌, Bool, true, false, ◌&&◌, ◌==◌, List, []}
use Rattle.std.specs.Prelude.{◌∷◌, ◌++◌, length, take, drop, Option, Some, None, IfSome}
use Rattle.bq_job.specs.beside.BodySoFar.{BodySoFar}
use Rattle.bq_wire.specs.declared.put_body.PutBody.{PutBody}

-- nothing, a CR, or CR LF
abbrev pub begins_line_end : List ℕ → Bool
begins_line_end [] = true
begins_line_end (a ∷ []) = a == 13
begins_line_end (a ∷ b ∷ []) = a == 13 && b == 10
begins_line_end (a ∷ b ∷ c ∷ bytes) = false

-- these bytes have arrived after the command line of the put
pub record IsBodySoFar (body : PutBody) (after : List ℕ) : Type 0 where
  pub taken_is : body.taken ≡ length after
  pub stored : IfSome body.store (λ s. s.bytes ≡ take body.put.bytes after)
  pub end_is : body.good_end ≡ begins_line_end (drop body.put.bytes after)

-- no more was taken than belongs to the put, and the store has room for the rest of the body
pub record HasBodyRoom (body : PutBody) : Type 0 where
  pub within : body.taken ≤ body.put.bytes + 2
  pub room : IfSome body.store (λ s. body.put.bytes ≤ body.taken + s.room)

-- these bytes were taken
abbrev pub TakesBytes : PutBody → PutBody → List ℕ → Type 0
TakesBytes old new bytes = (after : List ℕ) → IsBodySoFar old after → IsBodySoFar new (after ++ bytes)

-- these bytes were appended to a store, if there is one, or the store was given up
abbrev pub Stores : Option BodySoFar → Option BodySoFar → List ℕ → Type 0
Stores None new bytes = new ≡ None
Stores (Some old) new bytes = IfSome new (λ s. (s.bytes ≡ old.bytes ++ bytes) × (old.room ≤ s.room + length bytes))
