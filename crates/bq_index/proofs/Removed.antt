-- A removal that asks a test: what is left of the entries, and what a test is asked of.
use Rattle.std.proofs.Common.{◌≡◌, Bool, true, false, List, [], ◌∷◌, ◌++◌, Option, None, Some, refl, arith}
use Rattle.std.specs.Prelude.{is_some}
use Rattle.std.specs.declared.cmp.Ordering.{Ordering}
use Rattle.std.specs.declared.cmp.Ordering.TheVariants.{Less}
use Rattle.std.specs.Map.{lookup, remove_entry}
use Rattle.std.specs.BTreeMap.{is_at}
use Rattle.std.specs.Option.{option_to_list}
use Rattle.bq_index.specs.Edited.{value_of}
use Rattle.bq_index.specs.Removed.{lookup_if, passing, removed_if}
use Rattle.bq_index.specs.Tree.{entries_in, height_in, IsLevel}
use Rattle.bq_index.specs.declared.tree.Node.{Node}
use Rattle.bq_index.proofs.Parts.{Around}

module _ {V : Type 0} (q : V → Bool) where
  -- no value passes if there is none
  pub no_value : (o : Option V) → false ≡ is_some (passing q o) → None ≡ passing q o
  no_value o h1 = grind arith

  -- a value that passes is the one that is there
  pub passed_value : (o : Option V) → true ≡ is_some (passing q o) → o ≡ passing q o
  passed_value o h1 = grind arith

  pub value_there : (o : Option V) (v : V) → Some v ≡ passing q o → Some v ≡ o
  value_there o v h2 = grind arith

  pub not_there : (o : Option V) → false ≡ is_some o → false ≡ is_some (passing q o)
  not_there o h1 = grind arith

-- a test that every value passes
pub all_pass : {V : Type 0} (o : Option V) → passing (λ v. true) o ≡ o
all_pass o = grind arith

module _ {K V : Type 0} (test : K → Bool) where
  pub all_removed : (es : List (K × V)) (v : Option V) → v ≡ lookup test es → removed_if test v es ≡ remove_entry test es
  all_removed [] None h = refl
  all_removed [] (Some v) h = refl
  all_removed (y ∷ es) (Some v) h = refl
  all_removed (y ∷ es) None h = grind (arith, all_removed es None)

module _ {K V : Type 0} {R : K → K → Ordering} {k : K} {a : Ordering} {es l : List (K × V)} {e : Option (K × V)} {r : List (K × V)}
    (w : Around R k a es l e r) (v : Option V) where
  pub gone_below : a ≡ Less → removed_if (is_at (R k)) v es ≡ removed_if (is_at (R k)) v l ++ (option_to_list e ++ r)
  gone_below i = grind arith

-- a single box, of whose value a test is asked
module _ {K V : Type 0} (test : K → Bool) (q : V → Bool) where
  pub passes_single : (n : Node K V) (c : Bool) → IsLevel n → height_in n ≡ 1 → true ≡ is_some (lookup test (entries_in n))
      → c ≡ is_some (passing q (value_of n)) → c ≡ is_some (lookup_if test q (entries_in n))
  passes_single n c b h f e = grind arith
