-- How the control line is read, byte by byte.
use Rattle.std.proofs.Common.{◌≡◌, ℕ, Bool, true, false, ◌==◌, List, arith}
use Rattle.std.proofs.Common.{[], ◌∷◌, ◌++◌, refl, take}
use Rattle.std.proofs.Common.{Option, IfSome}
use Rattle.std.specs.Prelude.{nat_eq}
use Rattle.std.specs.Cmp.Lexicographic.{pointwise}
use Rattle.std.specs.Io.KnownBytes.{Consumes, IsAtEnd}
use Rattle.bq_job.specs.promise.ControlDid.{are_same, drain_word, drains_from}
use Rattle.bq_line.specs.ControlRead.{HasRead, IsReadToEnd}

pub same_bytes : (xs ys : List ℕ) → pointwise nat_eq xs ys ≡ are_same xs ys
same_bytes [] ys = grind arith
same_bytes (x ∷ xs) [] = refl
same_bytes (x ∷ xs) (y ∷ ys) = grind (arith, same_bytes xs ys)

-- the first six bytes determine whether a line is the word
kept_tells : (line : List ℕ) → are_same (take 6 line) drain_word ≡ are_same line drain_word
kept_tells line = grind arith

-- what is kept of a line is as good as the line
kept_serves : (line bytes : List ℕ) (failed : Bool) → drains_from (take 6 line) bytes failed ≡ drains_from line bytes failed
kept_serves line [] failed = grind (arith, kept_tells)
kept_serves line (byte ∷ bytes) failed =
    grind (arith, kept_tells, kept_serves (take 6 line ++ byte ∷ []) bytes failed, kept_serves (line ++ byte ∷ []) bytes failed)

-- one byte of a line other than LF
pub byte_read : (kept later : List ℕ) (byte : ℕ) → (byte == 10) ≡ false → later ≡ take 6 (kept ++ byte ∷ [])
    → HasRead kept (byte ∷ []) false later
byte_read kept later byte other is rest failed = grind (arith, kept_serves)

-- an LF
pub line_read : (kept : List ℕ) (byte : ℕ) → (byte == 10) ≡ true → HasRead kept (byte ∷ []) true kept
line_read kept byte feed rest failed = grind arith

-- the end or a fault was met
pub ends_read : (before next after : Option (List ℕ)) (text : List ℕ) (failed : Bool) → Consumes before next text → Consumes next after []
    → IfSome next (λ bytes. IsAtEnd after) → IsReadToEnd before after text failed
ends_read before next after text failed h5 h6 h7 = grind arith

pub fails_read : (before next after : Option (List ℕ)) (text : List ℕ) → Consumes before next text → Consumes next after []
    → IsReadToEnd before after text true
fails_read before next after text h4 h5 = grind arith
