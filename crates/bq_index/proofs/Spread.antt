-- Entries that are spread over trees by the parts of their keys: what holds for one of the trees, and
-- what a lookup, an insertion or a removal there does to all of them.
use Rattle.std.proofs.Common.{◌≡◌, ℕ, zero, suc, ◌+◌, ◌*◌, ◌<◌, ◌≤◌, length, arith, List}
use Rattle.std.proofs.Common.{[], ◌∷◌, ◌++◌, Option, None, refl, sym, ap, ◌∙◌, subst, append_assoc, length-append}
use Rattle.std.proofs.lemmas.List.{set-get_or, set-set, take_all}
use Rattle.std.specs.Prelude.{◌^◌, drop, get_or, if◌then◌else◌, is_some, replicate, set, take}
use Rattle.std.specs.declared.cmp.Ordering.{Ordering}
use Rattle.std.specs.declared.cmp.Ordering.TheVariants.{Less, Greater}
use Rattle.std.specs.Cmp.{IsTotalOrder}
use Rattle.std.specs.List.{AllByRecursion}
use Rattle.std.specs.Map.{keys_of, lookup, remove_entry}
use Rattle.std.specs.BTreeMap.{is_at, insert_entry}
use Rattle.bq_index.specs.declared.tree.Tree.{Tree}
use Rattle.bq_index.specs.declared.tree.Tree.TheVariants.{Leaf}
use Rattle.bq_index.specs.Order.{InOrder}
use Rattle.bq_index.specs.Digits.{binary_digits}
use Rattle.bq_index.specs.Shelves.{AreSpread, IsWholeOver, entries_over, key_from, of_part, tree_of}
use Rattle.bq_index.specs.Tree.{entries, IsBalanced}
use Rattle.bq_index.proofs.Bound.{digits_grow}
use Rattle.bq_index.proofs.Order.{AllAre, all_insert, all_remove, all_weaker, flips, from_past, insert_front, insert_past}
use Rattle.bq_index.proofs.Order.{length_inserted, length_lost, lookup_front, lookup_past, order_insert, order_none, order_remove}
use Rattle.bq_index.proofs.Order.{remove_front, remove_past}

module _ {K V : Type 0} where
  all_both : (P : K → Type 0) (l m : List (K × V)) → AllByRecursion P (keys_of l) → AllByRecursion P (keys_of m)
      → AllByRecursion P (keys_of (l ++ m))
  all_both P [] m a b = b
  all_both P (e ∷ l) m a b = (a.0, all_both P l m a.1 b)

module _ {K V : Type 0} where
  fewer_at : (d : Tree K V) (at : ℕ) (ts : List (Tree K V)) → at < length ts
      → length (entries (get_or ts at d)) ≤ length (entries_over ts)
  fewer_at d at [] l = absurd (omega (arith, l))
  fewer_at d zero (t ∷ ts) l = omega (arith, length-append (entries t) (entries_over ts))
  fewer_at d (suc at) (t ∷ ts) l = omega (arith, length-append (entries t) (entries_over ts), fewer_at d at ts (omega (arith, l)))

  -- t is one of the trees
  module _ (trees : List (Tree K V)) (at : ℕ) (t : Tree K V) (l : at < length trees) (is : t ≡ get_or trees at t) where
    pub tree_fewer : length (entries t) ≤ length (entries_over trees)
    tree_fewer = omega (arith, fewer_at t at trees l, ap (λ (u : Tree K V). length (entries u)) is)

    pub tree_digits : binary_digits (length (entries t) + 1) ≤ binary_digits (length (entries_over trees) + 1)
    tree_digits = digits_grow (length (entries t) + 1) (length (entries_over trees) + 1) (omega (arith, tree_fewer))

  -- the entries if the tree at `at` is `after`
  set_over : (at : ℕ) (ts : List (Tree K V)) (after : Tree K V) → at < length ts
      → entries_over (set ts at after) ≡ entries_over (take at ts) ++ (entries after ++ entries_over (drop (suc at) ts))
  set_over at [] after l = absurd (omega (arith, l))
  set_over zero (t ∷ ts) after l = refl
  set_over (suc at) (t ∷ ts) after l =
      ap (λ es. entries t ++ es) (set_over at ts after (omega (arith, l))) ∙ sym (append_assoc (entries t) (entries_over (take at ts)) _)

module _ {K V : Type 0} (R : K → K → Ordering) (place : K → ℕ) where
  -- one tree may become another one with keys of its place
  spread_set : (after : Tree K V) (i at : ℕ) (ts : List (Tree K V)) → AreSpread R place i ts → IsBalanced after → InOrder R (entries after)
      → AllByRecursion (λ j. place j ≡ i + at) (keys_of (entries after)) → AreSpread R place i (set ts at after)
  spread_set after i at [] s b d a = s
  spread_set after i zero (t ∷ ts) s b d a = (b, d, all_weaker (entries after) a (λ j h. omega (arith, h)), s.3)
  spread_set after i (suc at) (t ∷ ts) s b d a =
      (s.0, s.1, s.2, spread_set after (suc i) at ts s.3 b d (all_weaker (entries after) a (λ j h. omega (arith, h))))

  -- what holds for one of the trees
  abbrev IsOfPlace : ℕ → Tree K V → Type 0
  IsOfPlace i t = IsBalanced t × InOrder R (entries t) × AllByRecursion (λ j. place j ≡ i) (keys_of (entries t))

  tree_at : (d : Tree K V) (i at : ℕ) (ts : List (Tree K V)) → AreSpread R place i ts → at < length ts
      → IsOfPlace (i + at) (get_or ts at d)
  tree_at d i at [] s l = absurd (omega (arith, l))
  tree_at d i zero (t ∷ ts) s l = (s.0, s.1, all_weaker (entries t) s.2 (λ j h. omega (arith, h)))
  tree_at d i (suc at) (t ∷ ts) s l =
      let r = tree_at d (suc i) at ts s.3 (omega (arith, l)) in
      (r.0, r.1, all_weaker (entries (get_or ts at d)) r.2 (λ j h. omega (arith, h)))

  module _ (trees : List (Tree K V)) (at : ℕ) (t : Tree K V) (s : AreSpread R place 0 trees) (l : at < length trees)
      (is : t ≡ get_or trees at t) where
    tree_here : IsOfPlace (0 + at) t
    tree_here = subst (IsOfPlace (0 + at)) (sym is) (tree_at t 0 at trees s l)

    pub tree_balanced : IsBalanced t
    tree_balanced = tree_here.0

    pub tree_in_order : InOrder R (entries t)
    tree_in_order = tree_here.1

-- Keys of lower parts are lower. There are n trees.
module _ {K : Type 0} {R : K → K → Ordering} (o : IsTotalOrder R) (part : K → ℕ)
    (apart : (j k : K) → part j < part k → R j k ≡ Less) (n : ℕ) where
  abbrev place : K → ℕ
  place = tree_of part n

  -- a key of an earlier tree is lower
  earlier : (j k : K) → place j < place k → R j k ≡ Less
  earlier j k h = apart j k (omega (arith, h))

  module _ {V : Type 0} where
    higher : (k : K) (es : List (K × V)) → AllByRecursion (λ j. place k < place j) (keys_of es)
        → AllByRecursion (λ j. R k j ≡ Less) (keys_of es)
    higher k es a = all_weaker es a (λ j h. earlier k j h)

    lower : (k : K) (es : List (K × V)) → AllByRecursion (λ j. place j < place k) (keys_of es)
        → AllByRecursion (λ j. R k j ≡ Greater) (keys_of es)
    lower k es a = all_weaker es a (λ j h. flips o j k Less (earlier j k h))

    -- the places of the keys of the first `at` trees, of all trees, and of those after the first `at` + 1
    low_places : (i at : ℕ) (ts : List (Tree K V)) → AreSpread R place i ts
        → AllByRecursion (λ j. place j < i + at) (keys_of (entries_over (take at ts)))
    low_places i zero ts s = tt
    low_places i (suc at) [] s = tt
    low_places i (suc at) (t ∷ ts) s = all_both _ (entries t) (entries_over (take at ts))
        (all_weaker (entries t) s.2 (λ j h. omega (arith, h)))
        (all_weaker (entries_over (take at ts)) (low_places (suc i) at ts s.3) (λ j h. omega (arith, h)))

    from_place : (i : ℕ) (ts : List (Tree K V)) → AreSpread R place i ts → AllByRecursion (λ j. i ≤ place j) (keys_of (entries_over ts))
    from_place i [] s = tt
    from_place i (t ∷ ts) s = all_both _ (entries t) (entries_over ts) (all_weaker (entries t) s.2 (λ j h. omega (arith, h)))
        (all_weaker (entries_over ts) (from_place (suc i) ts s.3) (λ j h. omega (arith, h)))

    high_places : (i at : ℕ) (ts : List (Tree K V)) → AreSpread R place i ts
        → AllByRecursion (λ j. i + at < place j) (keys_of (entries_over (drop (suc at) ts)))
    high_places i at [] s = tt
    high_places i zero (t ∷ ts) s = all_weaker (entries_over ts) (from_place (suc i) ts s.3) (λ j h. omega (arith, h))
    high_places i (suc at) (t ∷ ts) s =
        all_weaker (entries_over (drop (suc at) ts)) (high_places (suc i) at ts s.3) (λ j h. omega (arith, h))

    -- the lowest key from a key on, if it is of the key's part
    of_tree : (k : K) (es later : List (K × V)) → AllByRecursion (λ j. place k < place j) (keys_of later)
        → of_part part (part k) (key_from (R k) (es ++ later)) ≡ of_part part (part k) (key_from (R k) es)
    of_tree k [] [] b = refl
    of_tree k [] (e ∷ later) b = let less = earlier k e.0 b.0 in let other : part k < part e.0 = omega (arith, b.0) in grind arith
    of_tree k (e ∷ es) later b = grind (arith, of_tree k es later b)

    -- t is the tree at `at`
    module _ (trees : List (Tree K V)) (s : AreSpread R place 0 trees) {at : ℕ} (l : at < length trees) {t : Tree K V}
        (is : t ≡ get_or trees at t) where
      here : IsOfPlace R place (0 + at) t
      here = tree_here R place trees at t s l is

      split_at : entries_over trees ≡ entries_over (take at trees) ++ (entries t ++ entries_over (drop (suc at) trees))
      split_at = ap entries_over (sym (set-get_or trees at t)) ∙ set_over at trees (get_or trees at t) l
          ∙ ap (λ u. entries_over (take at trees) ++ (entries u ++ entries_over (drop (suc at) trees))) (sym is)

      -- k is for that tree, which may become another one
      module _ (k : K) (e : at ≡ place k) where
        before : AllAre (R k) Greater (entries_over (take at trees))
        before = lower k (entries_over (take at trees))
            (all_weaker (entries_over (take at trees)) (low_places 0 at trees s) (λ j h. omega (arith, e, h)))

        later : AllByRecursion (λ j. place k < place j) (keys_of (entries_over (drop (suc at) trees)))
        later = all_weaker (entries_over (drop (suc at) trees)) (high_places 0 at trees s) (λ j h. omega (arith, e, h))

        behind : AllAre (R k) Less (entries_over (drop (suc at) trees))
        behind = higher k (entries_over (drop (suc at) trees)) later

        pub tree_lookup : lookup (is_at (R k)) (entries t) ≡ lookup (is_at (R k)) (entries_over trees)
        tree_lookup = grind (arith, split_at, lookup_past, lookup_front, before, behind)

        pub tree_key : of_part part (part k) (key_from (R k) (entries t)) ≡ of_part part (part k) (key_from (R k) (entries_over trees))
        tree_key = grind (arith, split_at, from_past, before, of_tree k (entries t) (entries_over (drop (suc at) trees)) later)

        module _ (after : Tree K V) where
          pub tree_inserted : (v : V) → entries after ≡ insert_entry R (entries t) k v
              → entries_over (set trees at after) ≡ insert_entry R (entries_over trees) k v
          tree_inserted v i = grind (arith, set_over at trees after l, split_at, insert_past, insert_front, before, behind)

          pub tree_removed : entries after ≡ remove_entry (is_at (R k)) (entries t)
              → entries_over (set trees at after) ≡ remove_entry (is_at (R k)) (entries_over trees)
          tree_removed i = grind (arith, set_over at trees after l, split_at, remove_past, remove_front, before, behind)

          spread_by : (es : List (K × V)) → IsBalanced after → entries after ≡ es → InOrder R es
              → AllByRecursion (λ j. place j ≡ 0 + at) (keys_of es) → AreSpread R place 0 (set trees at after)
          spread_by es b i d a = spread_set R place after 0 at trees s b
              (subst (InOrder R) (sym i) d) (subst (λ es. AllByRecursion (λ j. place j ≡ 0 + at) (keys_of es)) (sym i) a)

          pub spread_inserted : (v : V) → IsBalanced after → entries after ≡ insert_entry R (entries t) k v
              → AreSpread R place 0 (set trees at after)
          spread_inserted v b i = spread_by (insert_entry R (entries t) k v) b i
              (order_insert o k v (entries t) here.1) (all_insert o (λ j. place j ≡ 0 + at) k v (entries t) (omega (arith, e)) here.2)

          pub spread_removed : IsBalanced after → entries after ≡ remove_entry (is_at (R k)) (entries t)
              → AreSpread R place 0 (set trees at after)
          spread_removed b i = spread_by (remove_entry (is_at (R k)) (entries t)) b i
              (order_remove R (is_at (R k)) (entries t) here.1) (all_remove (is_at (R k)) (λ j. place j ≡ 0 + at) (entries t) here.2)

-- trees without entries
pub none_over : {K V : Type 0} (n : ℕ) → entries_over {K = K} {V = V} (replicate n Leaf) ≡ []
none_over zero = refl
none_over (suc n) = none_over n

pub none_spread : {K : Type 0} (V : Type 0) (R : K → K → Ordering) (at : K → ℕ) (i n : ℕ)
    → AreSpread {K = K} {V = V} R at i (replicate n Leaf)
none_spread V R at i zero = tt
none_spread V R at i (suc n) = (tt, order_none V R, tt, none_spread V R at (suc i) n)

-- the trees after a change
pub whole_after : {K V : Type 0} {R : K → K → Ordering} {part : K → ℕ} {trees last : List (Tree K V)} {len spare more left : ℕ}
    → IsWholeOver R part trees len spare → AreSpread R (tree_of part (length trees)) 0 last → length last ≡ length trees
    → more ≡ length (entries_over last) → more + left < 2 ^ 64 → IsWholeOver R part last more left
whole_after w s same c f = record { spread = rw same s; some = rw same w.some; counted = c; fits = f }

-- what the functions of one tree, and those of all shelves, need
pub ruleset one_tree = (
  spread_inserted,
  spread_removed,
  tree_balanced,
  tree_fewer,
  tree_in_order,
  tree_inserted,
  tree_lookup,
  tree_removed,
  tree_key,
  tree_digits,
)

pub ruleset all_trees = (length_inserted, length_lost, whole_after)
