-- Marks of seats that enter and leave a list.
use Rattle.std.proofs.Common.{ℕ, ◌≡◌, inl, inr, ◌+◌, ◌≤◌, ◌<◌, ◌==◌, Bool, true, false, cond, List, [], ◌∷◌, ◌++◌, length}
use Rattle.std.proofs.Common.{replicate, slice_set, slice_index_or, arith}
use Rattle.std.proofs.lemmas.Grind.{common_steps}
use Rattle.std.proofs.lemmas.List.{get_or-set_other, get_or_past, length-set}
use Rattle.std.proofs.lemmas.List.Sums.{count_by-le-length, sum_by-set, sum_by_push}
use Rattle.std.proofs.lemmas.Bool.Decides.{eqb_tells}
use Rattle.bq_host.specs.Marks.{HasMarks, times}

abbrev pub one_if : Bool → ℕ
one_if b = cond b 1 0

-- a seat more at the end of the list
pub times_push : (t : ℕ) (xs : List ℕ) (s : ℕ) → times t (xs ++ s ∷ []) ≡ times t xs + one_if (s == t)
times_push t xs s = sum_by_push (λ x. one_if (x == t)) xs s

-- `p` tells the marks of the seats of a list, and `away` is a mark of others.
module _ {M : Type 0} (p : M → Bool) (away : M) where
  -- 1 for a seat that has such a mark
  abbrev pub has_mark : List M → ℕ → ℕ
  has_mark marks t = one_if (p (slice_index_or marks t away))

  -- The mark of one seat was changed. The list, now `zs`, has the seat as often more or less, and every other as often as before.
  changed : (xs zs : List ℕ) (marks : List M) (s : ℕ) (y : M) → HasMarks p away xs marks → s < length marks
      → times s zs + has_mark marks s ≡ times s xs + one_if (p y) → ((t : ℕ) → one_if (s == t) ≡ 0 → times t zs ≡ times t xs)
      → length zs + has_mark marks s ≡ length xs + one_if (p y) → HasMarks p away zs (slice_set marks s y)
  changed xs zs marks s y has below here others long = record {
    each = λ t. elim (eqb_tells s t) [ inl same ↦ grind (arith, common_steps) | inr differs ↦ grind (arith, get_or-set_other) ];
    many = grind (arith, common_steps, sum_by-set);
  }

  -- A seat without such a mark that gets one is appended.
  pub entered : (xs : List ℕ) (marks : List M) (s : ℕ) (y : M) → HasMarks p away xs marks → s < length marks
      → p (slice_index_or marks s away) ≡ false → p y ≡ true → HasMarks p away (xs ++ s ∷ []) (slice_set marks s y)
  entered xs marks s y has below was is = grind (arith, common_steps)

  -- A list whose marks are not touched stays.
  pub stayed : (xs : List ℕ) (marks : List M) (s : ℕ) (y : M) → HasMarks p away xs marks → s < length marks
      → p (slice_index_or marks s away) ≡ p y → HasMarks p away xs (slice_set marks s y)
  stayed xs marks s y has below same = grind (arith, common_steps)

  -- A seat that loses its mark leaves.
  pub left : (xs ys : List ℕ) (marks : List M) (s : ℕ) (y : M) → HasMarks p away (xs ++ s ∷ ys) marks → s < length marks
      → p y ≡ false → HasMarks p away (xs ++ ys) (slice_set marks s y)
  left xs ys marks s y has below is = changed (xs ++ s ∷ ys) (xs ++ ys) marks s y has below (grind (arith, common_steps, has.each s))
      (grind (arith, common_steps)) (grind (arith, common_steps, has.each s))

  -- There is room for a list of marked seats.
  pub fits : (xs : List ℕ) (marks : List M) → HasMarks p away xs marks → length xs ≤ length marks
  fits xs marks has = omega (arith, has.many, count_by-le-length p marks)

  -- There is room for one more.
  pub room : (xs : List ℕ) (marks : List M) (s : ℕ) (y : M) → HasMarks p away xs marks → s < length marks
      → p (slice_index_or marks s away) ≡ false → p y ≡ true → length xs < length marks
  room xs marks s y has below was is = grind (arith, common_steps, fits, entered xs marks s y has below was is, length-set marks s y)

  -- The mark of a seat of a list.
  pub marked : (xs ys : List ℕ) (marks : List M) (s : ℕ) → HasMarks p away (xs ++ s ∷ ys) marks
      → p (slice_index_or marks s away) ≡ true
  marked xs ys marks s has = grind (arith, common_steps)

  -- A seat of a list exists.
  pub within : (xs ys : List ℕ) (marks : List M) (s : ℕ) → p away ≡ false → HasMarks p away (xs ++ s ∷ ys) marks
      → s < length marks
  within xs ys marks s none has = grind (arith, common_steps, get_or_past marks s away, has.each s)

  -- No seat has such a mark at first.
  pub none_marked : (n : ℕ) (y : M) → p away ≡ false → p y ≡ false → HasMarks p away [] (replicate n y)
  none_marked n y none is = grind (arith, common_steps)
