-- One more reading of a script.
use Rattle.std.proofs.Common.{◌≡◌, ◌<◌, ◌≤◌, ℕ, ◌+◌, inl, List, [], ◌∷◌, ◌++◌}
use Rattle.std.proofs.Common.{Option, Some, None, refl, arith, append_assoc, length, length-drop, take, drop, take-add}
use Rattle.std.proofs.lemmas.Grind.{common_steps}
use Rattle.std.proofs.lemmas.List.{replicate-append-replicate}
use Rattle.std.proofs.lemmas.Option.{get_or_from_slice_get, slice_get_within}
use Rattle.std.proofs.Math.Seq.{drop-cons, drop-drop}
use Rattle.std.specs.Prelude.{slice_get}
use Rattle.bq_line.specs.ScriptPlace.{ScriptPlace, IsRead, last_reading}

one_more : (script : List (Option ℕ)) (place : ℕ) (r : Option ℕ) → slice_get script place ≡ Some r → take 1 (drop place script) ≡ r ∷ []
one_more script place r is = grind (arith, drop-cons, slice_get_within script place r is, get_or_from_slice_get script place r None is)

pub read_next : (first old new : ScriptPlace) (readings : List (Option ℕ)) (r : Option ℕ) → IsRead first readings old
    → old.place < length old.script → slice_get old.script old.place ≡ Some r → new.script ≡ old.script → new.place ≡ old.place + 1
    → IsRead first (readings ++ r ∷ []) new
read_next first old new readings r read lt is script place =
    let here = one_more old.script old.place r is in record {
      count = read.count + 1;
      again = 0;
      script_is = grind arith;
      within = grind (arith, length-drop);
      place_is = grind arith;
      readings_are = grind (arith, common_steps, take-add, drop-drop);
      at_end = inl refl;
    }

pub read_again : (first old : ScriptPlace) (readings : List (Option ℕ)) (r : Option ℕ) → IsRead first readings old
    → length old.script ≤ old.place → r ≡ last_reading old.script → IsRead first (readings ++ r ∷ []) old
read_again first old readings r read le is =
    grind (arith, append_assoc, replicate-append-replicate read.again 1 (last_reading first.script))
