-- Which bytes form the name of a tube.
use Rattle.std.specs.Prelude.{ℕ, Bool, false, ◌&&◌, ◌||◌, ◌==◌, not, nat_le, List, [], ◌∷◌, length, codes, ◌++◌, ◌-◌, replicate, nat_eq}
use Rattle.std.specs.{Cmp.Lexicographic.pointwise, List.{list_all, list_any}}

-- a letter, a digit, or one of - + / ; . $ _ ( )
abbrev pub name_byte : ℕ → Bool
name_byte b =
    (nat_le 97 b && nat_le b 122) || (nat_le 65 b && nat_le b 90) || (nat_le 48 b && nat_le b 57)
    || list_any (λ c. c == b) (codes "-+/;.$_()")

-- the name is not empty and does not begin with -
abbrev pub begins_name : List ℕ → Bool
begins_name [] = false
begins_name (b ∷ bytes) = not (b == 45)

-- 1 to 200 such bytes; the first is not -
abbrev pub is_tube_name : List ℕ → Bool
is_tube_name bytes = begins_name bytes && nat_le (length bytes) 200 && list_all name_byte bytes

abbrev pub is_same_name : List ℕ → List ℕ → Bool
is_same_name = pointwise nat_eq

-- an array of 200 bytes: these, and zeros after them
abbrev pub filled_up : List ℕ → List ℕ
filled_up bytes = bytes ++ replicate (200 - length bytes) 0
