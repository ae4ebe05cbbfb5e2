-- What a contract sees of a table, from the lists that it is made of.
use Rattle.std.proofs.lemmas.Grind.{common_steps}
use Rattle.std.proofs.Common.{Option, Some, None, arith, refl, sym, ap, ◌∙◌, subst, ◌≡◌, ◌<◌, ℕ, List, length}
use Rattle.std.specs.Prelude.{slice_get, option_and_then}
use Rattle.std.specs.BTreeMap.{is_at, insert_entry}
use Rattle.std.specs.Cmp.Lexicographic.{nat_list_cmp_total, slice_cmp}
use Rattle.std.specs.Map.{keys_of, lookup}
use Rattle.std.specs.Option.{option_map}
use Rattle.std.specs.Ordering.{nat_cmp}
use Rattle.std.proofs.lemmas.Bool.{cases_Bool}
use Rattle.std.proofs.lemmas.List.{length-map}
use Rattle.bq_index.specs.Order.{InOrder}
use Rattle.bq_jobs.specs.FreeNumbers.{SlotState, names_in, values_in}
use Rattle.bq_jobs.specs.Names.{number_in}
use Rattle.bq_jobs.specs.Numbering.{Extends, IsPaired, Numbering, number_of}
use Rattle.bq_jobs.specs.Table.{Tabled, entries_at, numbering_of, table_seen}
use Rattle.bq_jobs.proofs.Choice.{lookup_inserted}
use Rattle.bq_jobs.proofs.NumberingLemmas.{has_slot, tied_names}
use Rattle.bq_jobs.proofs.TableLemmas.{AreValued, are_valued, same_keys, are_apart, edit_some, has_value, looked_up}

-- each tube keeps its number when another one is added
pub extends_by : (old new : List (List ℕ × ℕ)) (name : List ℕ) (n : ℕ) → lookup (is_at (slice_cmp nat_cmp name)) old ≡ None
    → new ≡ insert_entry (slice_cmp nat_cmp) old name n → Extends old new
extends_by old new name n absent is =
    λ q m own. grind (arith, common_steps, cases_Bool, lookup_inserted nat_list_cmp_total q name n old absent, tied_names q name)

-- there are as many values as names
pub as_many : {V : Type 0} (slots : List (SlotState V)) → length (values_in slots) ≡ length (names_in slots)
as_many slots = grind (arith, length-map)

-- what a contract sees of a table, from the numbers of the names and the slots of the numbers
module _ {V : Type 0} (numbers : List (List ℕ × ℕ)) (slots : List (SlotState V)) (h : IsPaired (numbering_of numbers slots)) where
  abbrev k : Numbering
  k = numbering_of numbers slots

  abbrev vs : List V
  vs = values_in slots

  many : length vs ≡ length k.names
  many = as_many slots

  pub valued : AreValued (length vs) numbers
  valued = subst (λ m. AreValued m numbers) (sym many) (are_valued k h)

  pub look : (q : List ℕ) → lookup (is_at (slice_cmp nat_cmp q)) (entries_at numbers vs) ≡ option_and_then (slice_get vs) (number_of q k)
  look q = looked_up (is_at (slice_cmp nat_cmp q)) vs numbers valued

  slot_of : (q : List ℕ) (n : ℕ) → number_of q k ≡ Some n → n < length vs
  slot_of q n own = let l = has_slot k n q (h.there q n own) in omega (arith, l, many)

  pub absent_by : (q : List ℕ) (o : Option ℕ) → number_of q k ≡ o → option_and_then (slice_get vs) o ≡ None → o ≡ None
  absent_by q None own none = refl
  absent_by q (Some n) own none = absurd (let its = has_value vs n (slot_of q n own) in let e = sym none ∙ its.1 in cc)

  module _ (t : Tabled V) (is : table_seen numbers slots ≡ t) where
    pub table_keys : keys_of t.entries ≡ keys_of t.tubes.numbers
    table_keys = subst (λ (s : Tabled V). keys_of s.entries ≡ keys_of s.tubes.numbers) is (same_keys vs numbers valued)

    pub table_order : InOrder (slice_cmp nat_cmp) t.entries
    table_order = grind (arith, same_keys, valued)

    pub table_length : length numbers ≡ length t.entries
    table_length = grind (arith, length-map, same_keys, valued)

    -- the number of a tube, as a search reports it
    module _ (q : List ℕ) (o : Option (List ℕ)) (found : option_map number_in o ≡ number_of q t.tubes) where
      found_in : option_map number_in o ≡ number_of q k
      found_in = found ∙ ap (λ (s : Tabled V). number_of q s.tubes) (sym is)

      pub not_there : o ≡ None → lookup (is_at (slice_cmp nat_cmp q)) t.entries ≡ None
      not_there none = grind (arith, look, found_in)

      pub value_there : (n : List ℕ) → o ≡ Some n → lookup (is_at (slice_cmp nat_cmp q)) t.entries ≡ slice_get vs (number_in n)
      value_there n some = grind (arith, look, found_in)

      pub slot_there : (n : List ℕ) → o ≡ Some n → number_in n < length slots
      slot_there n some = let within = slot_of q (number_in n) (sym found_in ∙ ap (option_map number_in) some) in grind (arith, length-map)

    pub table_extends : (new : List (List ℕ × ℕ)) (name : List ℕ) (n : ℕ) → lookup (is_at (slice_cmp nat_cmp name)) t.entries ≡ None
        → new ≡ insert_entry (slice_cmp nat_cmp) numbers name n → Extends t.tubes.numbers new
    table_extends new name n absent numbers = grind (arith, extends_by, absent_by, look)

-- what the search takes for a change of a value
pub ruleset edits = (slot_there, value_there, valued, are_apart, edit_some, length-map, table_order)
