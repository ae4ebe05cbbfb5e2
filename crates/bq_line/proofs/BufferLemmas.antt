-- Bytes in a buffer, and those left in the stream after them.
use Rattle.std.proofs.Common.{◌≡◌, ◌<◌, ℕ, List, Option, min, take, drop, arith, append_assoc}
use Rattle.std.proofs.lemmas.List.{take-append-drop}
use Rattle.std.specs.Io.KnownBytes.{Consumes, prepend_known}

-- the first bytes of the buffer were taken
pub taken_first : (held left : List ℕ) (known : Option (List ℕ)) (n : ℕ) → left ≡ drop n held
    → Consumes (prepend_known held known) (prepend_known left known) (take n held)
taken_first held left known n h4 = grind (arith, append_assoc, take-append-drop n held)

-- as many bytes as both have
pub some_of_both : (a b n : ℕ) → n ≡ min a b → 0 < a → 0 < b → n ≡ 0 → ⊥
some_of_both a b n is some more none = omega arith
