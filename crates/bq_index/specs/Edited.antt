-- What a box is after a change of one of its values in place.
use Rattle.std.specs.Prelude.{Bool, List, Option, None, Some}
use Rattle.std.specs.Option.{option_map}
use Rattle.std.specs.declared.cmp.Ordering.{Ordering}
use Rattle.std.specs.Ordering.{match_ordering}
use Rattle.std.specs.Map.{lookup, set_value}
use Rattle.bq_index.specs.declared.tree.Tree.{Tree}
use Rattle.bq_index.specs.declared.tree.Tree.TheVariants.{Leaf, Fork}
use Rattle.bq_index.specs.declared.tree.Node.{Node}
use Rattle.bq_index.specs.declared.tree.Node.TheVariants.{Spare, SpareBefore', Alone, OnLeft', OnRight', Both'}
use Rattle.bq_index.specs.Tree.{entry_in}

-- x, or what `put` makes of the value, changed by f, if there is one
abbrev pub edited_if : {V X : Type 0} → (V → V) → (V → X) → X → Option V → X
edited_if f put x None = x
edited_if f put x (Some v) = put (f v)

-- the entries with the value at the key, if there is one, changed by f
abbrev pub edited_at : {K V : Type 0} → (K → Bool) → (V → V) → List (K × V) → List (K × V)
edited_at test f es = edited_if f (set_value test es) es (lookup test es)

-- the value after a change that returned `told`, or the same value if there was no change
abbrev pub edited_by : {V T : Type 0} → (T → V → V) → Option T → V → V
edited_by f None v = v
edited_by f (Some told) v = f told v

-- If there is a value, something is returned of which P holds; otherwise nothing is.
abbrev pub MayReturn : {V T : Type 0} → (V → T → Type 0) → Option V → Option T → Type 0
MayReturn P None None = Unit {0}
MayReturn P None (Some told) = ⊥
MayReturn P (Some v) None = ⊥
MayReturn P (Some v) (Some told) = P v told

module _ {K V : Type 0} where
  -- the value of the box
  abbrev pub value_of : Node K V → Option V
  value_of n = option_map (λ e. e.1) (entry_in n)

  -- the box with its own value changed by f
  abbrev pub edited_here : (V → V) → Node K V → Node K V
  edited_here f Spare = Spare
  edited_here f (SpareBefore' p n) = SpareBefore' p n
  edited_here f (Alone k v) = Alone k (f v)
  edited_here f (OnLeft' k p l v) = OnLeft' k p l (f v)
  edited_here f (OnRight' k p r v) = OnRight' k p r (f v)
  edited_here f (Both' h k p l q r v) = Both' h k p l q r (f v)

module _ {K V : Type 0} (compare : K → Ordering) where
  -- the box with the value at the key, there or below, changed by f
  abbrev pub edited_in : (V → V) → Node K V → Node K V
  edited_in f Spare = Spare
  edited_in f (SpareBefore' p n) = SpareBefore' p n
  edited_in f (Alone k v) = match_ordering (compare k) (Alone k v) (Alone k (f v)) (Alone k v)
  edited_in f (OnLeft' k p l v) =
      match_ordering (compare k) (OnLeft' k p (edited_in f l) v) (OnLeft' k p l (f v)) (OnLeft' k p l v)
  edited_in f (OnRight' k p r v) =
      match_ordering (compare k) (OnRight' k p r v) (OnRight' k p r (f v)) (OnRight' k p (edited_in f r) v)
  edited_in f (Both' h k p l q r v) =
      match_ordering (compare k) (Both' h k p (edited_in f l) q r v) (Both' h k p l q r (f v)) (Both' h k p l q (edited_in f r) v)

  -- the value at the key, in the box or below it
  abbrev pub value_in : Node K V → Option V
  value_in Spare = None
  value_in (SpareBefore' p n) = None
  value_in (Alone k v) = match_ordering (compare k) None (Some v) None
  value_in (OnLeft' k p l v) = match_ordering (compare k) (value_in l) (Some v) None
  value_in (OnRight' k p r v) = match_ordering (compare k) None (Some v) (value_in r)
  value_in (Both' h k p l q r v) = match_ordering (compare k) (value_in l) (Some v) (value_in r)

  -- the tree with the value w at the key
  abbrev pub put_value : Tree K V → V → Tree K V
  put_value Leaf w = Leaf
  put_value (Fork b) w = Fork (record b { value = edited_in (λ v. w) b.value })

  abbrev pub value_at : Tree K V → Option V
  value_at Leaf = None
  value_at (Fork b) = value_in b.value
