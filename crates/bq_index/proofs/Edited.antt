-- A box with a value changed in place.
use Rattle.std.proofs.Common.{◌≡◌, Bool, List, [], ◌∷◌, ◌++◌, length, refl, arith}
use Rattle.std.specs.declared.cmp.Ordering.{Ordering}
use Rattle.std.specs.declared.cmp.Ordering.TheVariants.{Less, Equal, Greater}
use Rattle.std.specs.Cmp.{IsTotalOrder}
use Rattle.std.specs.Ordering.{match_ordering}
use Rattle.std.specs.Map.{keys_of, lookup, set_value}
use Rattle.std.specs.BTreeMap.{is_at}
use Rattle.std.proofs.lemmas.Map.{keys-set_value, length-set_value}
use Rattle.bq_index.specs.declared.tree.Tree.{Tree}
use Rattle.bq_index.specs.declared.tree.Node.{Node}
use Rattle.bq_index.specs.declared.tree.Node.TheVariants.{Spare, SpareBefore', Alone, OnLeft', OnRight', Both'}
use Rattle.bq_index.specs.Edited.{edited_at, edited_in, put_value, value_in}
use Rattle.bq_index.specs.Order.{InOrder}
use Rattle.bq_index.specs.Tree.{entries, entries_in, height_in, IsBalanced, IsLevel}
use Rattle.bq_index.proofs.Order.{lookup_by, order_left, order_right, set_by}

-- what holds for each of three values
by_order : {X : Type 0} (P : X → Type 0) (a : Ordering) {x y z : X} → (a ≡ Less → P x) → (a ≡ Equal → P y) → (a ≡ Greater → P z)
    → P (match_ordering a x y z)
by_order P a h2 h3 h4 = grind arith

-- A change keeps a box level, and its height.
module _ {K V : Type 0} (compare : K → Ordering) (f : V → V) where
  abbrev IsLevelAs : Node K V → Node K V → Type 0
  IsLevelAs n m = IsLevel m × (height_in m ≡ height_in n)

  pub edited_level : (n : Node K V) → IsLevel n → IsLevelAs n (edited_in compare f n)
  edited_level Spare b = absurd b
  edited_level (SpareBefore' p n) b = absurd b
  edited_level (Alone k v) b = by_order (IsLevelAs (Alone k v)) (compare k) (λ e. (b, refl)) (λ e. (b, refl)) (λ e. (b, refl))
  edited_level (OnLeft' k p l v) b = grind arith
  edited_level (OnRight' k p r v) b = grind arith
  edited_level (Both' h k p l q r v) b =
      let i = edited_level l b.2 in
      let j = edited_level r b.3 in
      by_order (IsLevelAs (Both' h k p l q r v)) (compare k) (λ e. ((rw i.1 b.0, rw i.1 b.1, i.0, b.3), refl)) (λ e. (b, refl))
      (λ e. ((rw j.1 b.0, rw j.1 b.1, b.2, j.0), refl))

-- the entries e between l and r, after the value at k is changed
module _ {K V : Type 0} {R : K → K → Ordering} (o : IsTotalOrder R) (k : K) (f : V → V) where
  abbrev changed : List (K × V) → List (K × V)
  changed es = edited_at (is_at (R k)) f es

  changed_by : (l : List (K × V)) (e : K × V) (r : List (K × V)) → InOrder R (l ++ e ∷ r)
      → changed (l ++ e ∷ r) ≡ match_ordering (R k e.0) (changed l ++ e ∷ r) (l ++ (e.0, f e.1) ∷ r) (l ++ e ∷ changed r)
  changed_by l e r s = grind (arith, lookup_by, set_by)

  pub edited_entries : (n : Node K V) → IsLevel n → InOrder R (entries_in n) → entries_in (edited_in (R k) f n) ≡ changed (entries_in n)
  edited_entries Spare b s = absurd b
  edited_entries (SpareBefore' p n) b s = absurd b
  edited_entries (Alone j v) b s = grind (arith, changed_by [] (j, v) [] s)
  edited_entries (OnLeft' j p l v) b s =
      let i = edited_entries l b.1 (order_left R (entries_in l) (j, v) [] s) in grind (arith, changed_by (entries_in l) (j, v) [] s)
  edited_entries (OnRight' j p r v) b s =
      let i = edited_entries r b.1 (order_right R [] (j, v) (entries_in r) s) in grind (arith, changed_by [] (j, v) (entries_in r) s)
  edited_entries (Both' h j p l q r v) b s =
      let i = edited_entries l b.2 (order_left R (entries_in l) (j, v) (entries_in r) s) in
      let i2 = edited_entries r b.3 (order_right R (entries_in l) (j, v) (entries_in r) s) in
      grind (arith, changed_by (entries_in l) (j, v) (entries_in r) s)

module _ {K V : Type 0} {R : K → K → Ordering} (o : IsTotalOrder R) (k : K) where
  pub value_looked_up : (n : Node K V) → IsLevel n → InOrder R (entries_in n) → value_in (R k) n ≡ lookup (is_at (R k)) (entries_in n)
  value_looked_up Spare b s = absurd b
  value_looked_up (SpareBefore' p n) b s = absurd b
  value_looked_up (Alone j v) b s = grind arith
  value_looked_up (OnLeft' j p l v) b s =
      let i = value_looked_up l b.1 (order_left R (entries_in l) (j, v) [] s) in grind (arith, lookup_by o k (entries_in l) (j, v) [] s)
  value_looked_up (OnRight' j p r v) b s =
      let i = value_looked_up r b.1 (order_right R [] (j, v) (entries_in r) s) in grind (arith, lookup_by o k [] (j, v) (entries_in r) s)
  value_looked_up (Both' h j p l q r v) b s =
      let i = value_looked_up l b.2 (order_left R (entries_in l) (j, v) (entries_in r) s) in
      let i2 = value_looked_up r b.3 (order_right R (entries_in l) (j, v) (entries_in r) s) in
      grind (arith, lookup_by o k (entries_in l) (j, v) (entries_in r) s)

-- a list with a value written at a key
set_as_edited : {K V : Type 0} (test : K → Bool) (es : List (K × V)) (w : V) → edited_at test (λ x. w) es ≡ set_value test es w
set_as_edited test [] w = refl
set_as_edited test (e ∷ es) w = grind (arith, set_as_edited test es w)

-- the same for a tree of which a value is lent
module _ {K V : Type 0} {R : K → K → Ordering} (o : IsTotalOrder R) (k : K) where
  pub put_entries : (t : Tree K V) (w : V) → IsBalanced t → InOrder R (entries t)
      → entries (put_value (R k) t w) ≡ set_value (is_at (R k)) (entries t) w
  put_entries t w h2 h3 = grind (arith, edited_entries, set_as_edited)

-- A change of a value keeps the keys.
module _ {K V : Type 0} (test : K → Bool) (f : V → V) (es : List (K × V)) where
  pub edited_keys : keys_of (edited_at test f es) ≡ keys_of es
  edited_keys = grind (arith, keys-set_value)

  pub edited_length : length (edited_at test f es) ≡ length es
  edited_length = grind (arith, length-set_value)
