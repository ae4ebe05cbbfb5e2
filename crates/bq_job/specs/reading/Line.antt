-- The command lines of a text.
use Rattle.std.specs.Prelude.{ℕ, Bool, ◌&&◌, ◌==◌, List, [], ◌∷◌, Option, Some, None, option_map, if◌then◌else◌}

-- CR LF, the end of a command line
abbrev pub line_end : List ℕ
line_end = 13 ∷ 10 ∷ []

abbrev pub are_line_end : ℕ → ℕ → Bool
are_line_end a b = a == 13 && b == 10

abbrev pub onto_line : ℕ → List ℕ × List ℕ → List ℕ × List ℕ
onto_line a (line, after) = (a ∷ line, after)

-- The bytes before the first CR LF of a text, and the bytes after it. A CR or LF alone is an
-- ordinary byte.
abbrev pub first_line : List ℕ → Option (List ℕ × List ℕ)
first_line [] = None
first_line (a ∷ []) = None
first_line (a ∷ b ∷ bytes) =
    let later = option_map (onto_line a) (first_line (b ∷ bytes)) in
    if are_line_end a b then Some ([], bytes) else later
