-- Where a command line ends in bytes that arrive in pieces.
use Rattle.std.specs.Prelude.{ℕ, suc, ◌+◌, Bool, ◌&&◌, ◌==◌, List, [], ◌∷◌, Option, Some, None, option_map, if◌then◌else◌}

-- How many bytes there are up to and including the first LF that follows a CR. `after_cr` says
-- whether the first byte follows a CR.
abbrev pub line_end_after : Bool → List ℕ → Option ℕ
line_end_after after_cr [] = None
line_end_after after_cr (b ∷ bytes) =
    if after_cr && b == 10 then Some 1 else option_map suc (line_end_after (b == 13) bytes)

-- the same, this many bytes further on
abbrev pub later_by : ℕ → Option ℕ → Option ℕ
later_by passed found = option_map (λ n. passed + n) found

-- whether the last byte is a CR; `after_cr` if there is no byte
abbrev pub last_is_cr : Bool → List ℕ → Bool
last_is_cr after_cr [] = after_cr
last_is_cr after_cr (b ∷ bytes) = last_is_cr (b == 13) bytes
