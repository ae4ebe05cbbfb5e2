-- The address at which a server listens, as it is written on the command line.
use Rattle.std.specs.Prelude.{ℕ, ◌==◌, ◌++◌, Bool, List, codes, length, nat_lt, not, slice_index, if◌then◌else◌, ◌&&◌}
use Rattle.std.specs.List.{after_first, list_any, position_or_len}

abbrev pub has : ℕ → List ℕ → Bool
has byte text = nat_lt (position_or_len (λ b. b == byte) text) (length text)

abbrev pub begins_with : ℕ → List ℕ → Bool
begins_with byte text = slice_index text 0 == byte

-- Whether an address names a port. After a bracket, 91, a port follows the colon, 58, that follows the first closing
-- bracket, 93. Otherwise it follows the only colon: an IPv6 address has more, and none of them begins a port.
abbrev pub names_port : List ℕ → Bool
names_port address =
    if begins_with 91 address then begins_with 58 (after_first (λ b. b == 93) address)
    else has 58 address && not (has 58 (after_first (λ b. b == 58) address))

-- The address with beanstalkd's port. An IPv6 address without brackets gets them.
abbrev pub with_usual_port : List ℕ → List ℕ
with_usual_port address =
    if has 58 address && not (begins_with 91 address) then codes "[" ++ address ++ codes "]:11300"
    else address ++ codes ":11300"
