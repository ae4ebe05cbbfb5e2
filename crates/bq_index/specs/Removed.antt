-- A removal that asks a test of the value first.
use Rattle.std.specs.Prelude.{Bool, cond, List, Option, None, Some, is_some}
use Rattle.std.specs.Map.{lookup, remove_entry}
use Rattle.std.specs.Option.{option_map}
use Rattle.bq_index.specs.declared.tree.Tree.{Tree}
use Rattle.bq_index.specs.Tree.{entry_of_top}

-- the value, if there is one and it passes
abbrev pub passing : {V : Type 0} → (V → Bool) → Option V → Option V
passing q None = None
passing q (Some v) = cond (q v) (Some v) None

module _ {K V : Type 0} where
  -- the value at the key, if there is one and it passes
  abbrev pub lookup_if : (K → Bool) → (V → Bool) → List (K × V) → Option V
  lookup_if test q es = passing q (lookup test es)

  -- the entries without that of the key if a value was removed, otherwise all of them
  abbrev pub removed_if : (K → Bool) → Option V → List (K × V) → List (K × V)
  removed_if test removed es = cond (is_some removed) (remove_entry test es) es

  -- the value of the box at the top
  abbrev pub value_of_top : Tree K V → Option V
  value_of_top t = option_map (λ e. e.1) (entry_of_top t)
