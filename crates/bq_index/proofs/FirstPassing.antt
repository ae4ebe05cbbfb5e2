-- The first entry of a tree that passes a test, derived from its sides.
use Rattle.std.proofs.Common.{◌≡◌, Bool, true, false, ◌&&◌, not, if◌then◌else◌, List, [], ◌∷◌, arith}
use Rattle.std.proofs.Common.{◌++◌, Option, None, Some, refl, sym, ap, ◌∙◌, subst}
use Rattle.std.specs.Prelude.{find}
use Rattle.std.proofs.lemmas.List.Folds.{find-append}
use Rattle.std.specs.declared.cmp.Ordering.{Ordering}
use Rattle.std.specs.declared.cmp.Ordering.TheVariants.{Less, Greater}
use Rattle.std.specs.Cmp.{IsTotalOrder}
use Rattle.std.specs.Ordering.{is_gt, is_lt}
use Rattle.std.specs.List.{AllByRecursion}
use Rattle.std.specs.Map.{keys_of}
use Rattle.std.specs.Option.{option_map, option_or}
use Rattle.bq_index.specs.Order.{InOrder}
use Rattle.bq_index.specs.Tree.{entries_of, HasParts}
use Rattle.bq_index.specs.Walk.{passes_by, passes_from}
use Rattle.bq_index.specs.declared.tree.Node.{Node}
use Rattle.bq_index.proofs.Order.{greater_left, less_right}

module _ {K V : Type 0} (p : K × V → Bool) {t l r : Option (Node K V)} {x : K × V} (c : HasParts t l (Some x) r) where
  by_parts : find p (entries_of t) ≡ option_or (find p (entries_of l)) (if p x then Some x else find p (entries_of r))
  by_parts = ap (find p) c.is ∙ find-append p (entries_of l) (x ∷ entries_of r)

  -- An entry on the left passes.
  pub found_left : {B : Type 0} (f : B → K × V) (o : Option B) → (o ≡ None → ⊥) → option_map f o ≡ find p (entries_of l)
      → option_map f o ≡ find p (entries_of t)
  found_left f o h2 h3 = grind (arith, by_parts)

  -- No entry on the left passes:
  module _ {B : Type 0} (f : B → K × V) (o : Option B) (n : o ≡ None) (e : option_map f o ≡ find p (entries_of l)) where
    -- then it is x,
    pub found_here : true ≡ p x → Some x ≡ find p (entries_of t)
    found_here h = grind (arith, by_parts)

    -- or it is on the right.
    pub found_right : {C : Type 0} → false ≡ p x → (g : C → K × V) (u : Option C) → option_map g u ≡ find p (entries_of r)
        → option_map g u ≡ find p (entries_of t)
    found_right h g u i = grind (arith, by_parts)

module _ {K V : Type 0} {R : K → K → Ordering} (o : IsTotalOrder R) (k : K) (p : K → V → Bool) where
  -- no entry with a key below k passes `passes_from k`
  none_below : (es : List (K × V)) → AllByRecursion (λ x. R k x ≡ Greater) (keys_of es) → find (passes_from (R k) p) es ≡ None
  none_below [] all = refl
  none_below (x ∷ es) all = rw all.0 (none_below es all.1)

  -- for entries with keys above k, `passes_from k` equals the test itself
  all_beyond : (es : List (K × V)) → AllByRecursion (λ x. R k x ≡ Less) (keys_of es) → find (passes_from (R k) p) es ≡ find (passes_by p) es
  all_beyond [] all = refl
  all_beyond (x ∷ es) all = rw (all.0, all_beyond es all.1) refl

  module _ {t l r : Option (Node K V)} {x : K × V} (c : HasParts t l (Some x) r) (s : InOrder R (entries_of t)) (a : Ordering)
      (is : a ≡ R k x.0) where
    whole_order : InOrder R (entries_of l ++ x ∷ entries_of r)
    whole_order = subst (InOrder R) c.is s

    -- the key of x is below k: the entry is on the right,
    pub from_right : {C : Type 0} → true ≡ is_gt a → (g : C → K × V) (u : Option C)
        → option_map g u ≡ find (passes_from (R k) p) (entries_of r)
        → option_map g u ≡ find (passes_from (R k) p) (entries_of t)
    from_right h g u i =
        let gt : is_gt (R k x.0) ≡ true = ap is_gt (sym is) ∙ sym h in
        let none = none_below (entries_of l) (greater_left o k (entries_of l) x (entries_of r) whole_order (greater (R k x.0) gt)) in
        found_right (passes_from (R k) p) c (λ (y : K × V). y) None refl (sym none) (sym (ap (λ b. not b && p x.0 x.1) gt)) g u i
      where
        greater : (a : Ordering) → is_gt a ≡ true → is_lt a ≡ false
        greater a h = grind arith

    -- or it is not below k, and no entry on the left passes:
    module _ (h : false ≡ is_gt a) {B : Type 0} (f : B → K × V) (u : Option B) (n : u ≡ None)
        (e : option_map f u ≡ find (passes_from (R k) p) (entries_of l)) where
      not_greater : is_gt (R k x.0) ≡ false
      not_greater = ap is_gt (sym is) ∙ sym h

      passes_here : (b : Bool) → b ≡ p x.0 x.1 → b ≡ passes_from (R k) p x
      passes_here b i = i ∙ sym (ap (λ g. not g && p x.0 x.1) not_greater)

      -- then it is x,
      pub first_here : true ≡ p x.0 x.1 → Some x ≡ find (passes_from (R k) p) (entries_of t)
      first_here i = found_here (passes_from (R k) p) c f u n e (passes_here true i)

      -- or it is the first one on the right.
      pub first_right : {C : Type 0} → false ≡ p x.0 x.1 → (g : C → K × V) (w : Option C)
          → option_map g w ≡ find (passes_by p) (entries_of r)
          → option_map g w ≡ find (passes_from (R k) p) (entries_of t)
      first_right i g w j = grind (arith, found_right, all_beyond, less_right, whole_order, not_greater)
