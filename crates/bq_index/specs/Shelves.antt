-- What a contract sees of trees of which each has the entries of one part.
use Rattle.std.specs.Prelude.{◌≡◌, ℕ, ◌+◌, ◌-◌, ◌<◌, ◌^◌, ◌==◌, min, if◌then◌else◌, List, [], ◌∷◌, ◌++◌, length, Option, None, Some}
use Rattle.std.proofs.Common.{suc}
use Rattle.std.specs.List.{AllByRecursion}
use Rattle.std.specs.Map.{keys_of}
use Rattle.std.specs.Option.{option_map}
use Rattle.std.specs.declared.cmp.Ordering.{Ordering}
use Rattle.bq_index.specs.declared.tree.Tree.{Tree}
use Rattle.bq_index.specs.Order.{InOrder, entry_from}
use Rattle.bq_index.specs.Tree.{entries, IsBalanced}

-- the key, if it is of part p
abbrev pub of_part : {K : Type 0} → (K → ℕ) → ℕ → Option K → Option K
of_part part p None = None
of_part part p (Some k) = if part k == p then Some k else None

module _ {K V : Type 0} where
  -- the entries of all trees, one tree after another
  abbrev pub entries_over : List (Tree K V) → List (K × V)
  entries_over [] = []
  entries_over (t ∷ ts) = entries t ++ entries_over ts

  -- The trees are balanced and in order. The first one has the keys whose place is i, the next one
  -- those whose place is i + 1, and so on.
  abbrev pub AreSpread : (K → K → Ordering) → (K → ℕ) → ℕ → List (Tree K V) → Type 0
  AreSpread R place i [] = Unit {0}
  AreSpread R place i (t ∷ ts) =
      IsBalanced t × InOrder R (entries t) × AllByRecursion (λ k. place k ≡ i) (keys_of (entries t)) × AreSpread R place (suc i) ts

  -- the first key that is not below the key that is compared
  abbrev pub key_from : (K → Ordering) → List (K × V) → Option K
  key_from compare es = option_map (λ e. e.0) (entry_from compare es)

-- the place of the tree for a key: that of its part, or the last one
abbrev pub tree_of : {K : Type 0} → (K → ℕ) → ℕ → K → ℕ
tree_of part trees k = min (part k) (trees - 1)

-- the invariant of the fields
pub record IsWholeOver {K V : Type 0} (R : K → K → Ordering) (part : K → ℕ) (trees : List (Tree K V)) (len spare : ℕ) : Type 0 where
  pub spread : AreSpread R (tree_of part (length trees)) 0 trees
  pub some : 0 < length trees
  pub counted : len ≡ length (entries_over trees)
  pub fits : len + spare < 2 ^ 64
