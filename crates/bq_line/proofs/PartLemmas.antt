-- Parts of a connection in memory that are done.
use Rattle.std.proofs.Common.{◌≡◌, ◌<◌, ℕ, ◌+◌, ◌-◌, zero, suc, true, List}
use Rattle.std.proofs.Common.{[], ◌∷◌, ◌++◌, refl, arith, append_assoc, length, take, drop, take-add}
use Rattle.std.proofs.Common.{get_or}
use Rattle.std.proofs.lemmas.Option.{slice_get_past, slice_get_read}
use Rattle.std.proofs.lemmas.Grind.{common_steps}
use Rattle.bq_line.specs.LineParts.{part_bytes, bytes_up_to, is_over}
use Rattle.bq_line.specs.declared.line.mem_line.Part.{Part}
use Rattle.bq_line.specs.declared.line.mem_line.Part.TheVariants as parts

pub at_first : (more : List Part) → bytes_up_to more zero zero ≡ []
at_first [] = refl
at_first (part ∷ more) = grind (arith, common_steps)

-- A part is skipped of which all bytes were read.
passed_whole : (all : List Part) (place offset : ℕ) (part : Part) → place < length all → part ≡ get_or all place part
    → take offset (part_bytes part) ≡ part_bytes part → bytes_up_to all (suc place) zero ≡ bytes_up_to all place offset
passed_whole [] place offset part lt is whole = absurd (omega arith)
passed_whole (first ∷ more) place offset part lt is whole = grind (arith, common_steps, at_first, passed_whole more)

-- A part that is done is skipped.
pub passed : (all : List Part) (place offset written : ℕ) (part : Part) → place < length all → part ≡ get_or all place part
    → is_over offset written part ≡ true → bytes_up_to all (suc place) zero ≡ bytes_up_to all place offset
passed all place offset written part lt is over = grind (arith, passed_whole, common_steps)

-- more bytes of a part are read
read_more : (all : List Part) (place offset n : ℕ) (part : Part) → place < length all → part ≡ get_or all place part
    → bytes_up_to all place (offset + n) ≡ bytes_up_to all place offset ++ take n (drop offset (part_bytes part))
read_more [] place offset n part lt is = absurd (omega arith)
read_more (first ∷ more) place offset n part lt is = grind (arith, take-add, append_assoc, read_more more)

-- These bytes come from the part at the place that was skipped to.
pub read_given : (all : List Part) (place offset next from n : ℕ) (part : Part) (bytes given : List ℕ)
    → bytes_up_to all next from ≡ bytes_up_to all place offset → next < length all → part ≡ get_or all next part → part_bytes part ≡ bytes
    → given ≡ take n (take (length bytes - from) (drop from bytes))
    → bytes_up_to all next (from + n) ≡ bytes_up_to all place offset ++ given
read_given all place offset next from n part bytes given same lt is bytes_are given_is = grind (arith, common_steps, read_more)

-- a part without bytes is skipped
pub passed_fault : (all : List Part) (place offset : ℕ) (part : Part) → place < length all → part ≡ get_or all place part
    → part ≡ parts.Fault
    → bytes_up_to all (suc place) zero ≡ bytes_up_to all place offset
passed_fault all place offset part lt is fault = grind (arith, common_steps, passed_whole)

-- how the parts that are done are skipped, and how a read continues
pub ruleset skips = (common_steps, passed, slice_get_read, slice_get_past)

pub ruleset reads = (common_steps, read_given, passed_fault, slice_get_read)
