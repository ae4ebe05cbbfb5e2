-- Consequences of the numbering of tubes.
use Rattle.std.proofs.lemmas.Grind.{common_steps}
use Rattle.std.proofs.Common.{◌≡◌, ◌≤◌, ◌<◌, ◌^◌, ℕ, zero, suc, true, false, cond, List, [], ◌∷◌, length, get_or, set}
use Rattle.std.proofs.Common.{Option, Some, None, is_some, arith, refl, sym, ap, ◌∙◌, ◌++◌}
use Rattle.std.specs.Prelude.{IfSome, ◌==◌}
use Rattle.std.specs.BTreeMap.{is_at, insert_entry}
use Rattle.std.specs.Cmp.{unsigned_tied}
use Rattle.std.specs.Cmp.Lexicographic.{bytes_decides, nat_list_cmp_total, slice_cmp, texts_ties}
use Rattle.std.specs.Map.{lookup, remove_entry}
use Rattle.std.specs.Ordering.{is_eq, nat_cmp}
use Rattle.std.proofs.lemmas.Bool.{cases_Bool, eq-eqb, eqb-true}
use Rattle.std.proofs.lemmas.Bool.Decides.{nat_tests}
use Rattle.bq_index.proofs.Order.{order_insert, order_remove}
use Rattle.bq_job.specs.reading.TubeName.{is_same_name}
use Rattle.bq_jobs.specs.Numbering.{name_of, names_without, number_of, paired_with, put_at, without_known, IsGiven, IsPaired, Numbering}
use Rattle.bq_jobs.proofs.ById.{is_eq_nat}
use Rattle.bq_jobs.proofs.Choice.{lookup_inserted, lookup_removed}

-- names that compare equal are the same
pub tied_names : (a b : List ℕ) → is_eq (slice_cmp nat_cmp a b) ≡ true → a ≡ b
tied_names a b e = (bytes_decides a b).0 (texts_ties a b ∙ e)

tied_numbers : (a b : ℕ) → is_eq (nat_cmp a b) ≡ true → a ≡ b
tied_numbers a b e = eqb-true a b (sym (unsigned_tied a b) ∙ e)

pub tie_names : (a b : List ℕ) → a ≡ b → is_eq (slice_cmp nat_cmp a b) ≡ true
tie_names a b e = sym (texts_ties a b) ∙ (bytes_decides a b).1 e

tie_numbers : (a b : ℕ) → a ≡ b → is_eq (nat_cmp a b) ≡ true
tie_numbers a b e = unsigned_tied a b ∙ eq-eqb a b e

pub lower : (m n : ℕ) → (suc m == suc n) ≡ false → (m == n) ≡ false
lower m n e = grind (arith, nat_tests)

pub flip : (m n : ℕ) → (m == n) ≡ false → (n == m) ≡ false
flip m n e = grind (arith, nat_tests)

pub some_is : {A : Type 0} (a b : A) → Some a ≡ Some b → a ≡ b
some_is a b e = cc

module _ (x : Option (List ℕ)) where
  pub put_same : (names : List (Option (List ℕ))) (m : ℕ) → get_or (put_at names m x) m None ≡ x
  put_same [] zero = refl
  put_same [] (suc m) = put_same [] m
  put_same (y ∷ names) zero = refl
  put_same (y ∷ names) (suc m) = put_same names m

  pub put_other : (names : List (Option (List ℕ))) (m n : ℕ) → (m == n) ≡ false → get_or (put_at names m x) n None ≡ get_or names n None
  put_other [] zero x e = grind arith
  put_other [] (suc m) zero e = refl
  put_other [] (suc m) (suc n) e = put_other [] m n (lower m n e)
  put_other (y ∷ names) zero x e = grind arith
  put_other (y ∷ names) (suc m) zero e = refl
  put_other (y ∷ names) (suc m) (suc n) e = put_other names m n (lower m n e)

  -- a slot that is there is set,
  pub put_is_set : (names : List (Option (List ℕ))) (m : ℕ) → m < length names → set names m x ≡ put_at names m x
  put_is_set [] m l = absurd (omega (arith, l))
  put_is_set (y ∷ names) zero l = refl
  put_is_set (y ∷ names) (suc m) l = ap (λ ns. y ∷ ns) (put_is_set names m (omega (arith, l)))

  -- and the next one is added.
  pub put_at_end : (names : List (Option (List ℕ))) → names ++ x ∷ [] ≡ put_at names (length names) x
  put_at_end [] = refl
  put_at_end (y ∷ names) = ap (λ ns. y ∷ ns) (put_at_end names)

  pub length_put : (names : List (Option (List ℕ))) (m : ℕ) → m < length names → length (put_at names m x) ≡ length names
  length_put [] m l = absurd (omega (arith, l))
  length_put (y ∷ names) zero l = refl
  length_put (y ∷ names) (suc m) l = ap suc (length_put names m (omega (arith, l)))

-- a number that has a name has a slot
pub has_slot : (k : Numbering) (n : ℕ) (name : List ℕ) → name_of n k ≡ Some name → n < length k.names
has_slot k n name its = grind (arith, common_steps)

module _ (k : Numbering) (h : IsPaired k) (name : List ℕ) where
  module _ (at : ℕ) (absent : number_of name k ≡ None) (free : name_of at k ≡ None) where
    number_then : (q : List ℕ) → number_of q (paired_with at name k) ≡ cond (is_eq (slice_cmp nat_cmp q name)) (Some at) (number_of q k)
    number_then q = lookup_inserted nat_list_cmp_total q name at k.numbers absent

    name_then : (n : ℕ) → name_of n (paired_with at name k) ≡ cond (is_eq (nat_cmp n at)) (Some name) (name_of n k)
    name_then n = grind (arith, cases_Bool, put_same, put_other, is_eq_nat)

    added_is_paired : length (put_at k.names at (Some name)) ≤ 2 ^ 30 → IsPaired (paired_with at name k)
    added_is_paired few =
        grind (
          arith,
          order_insert nat_list_cmp_total name at k.numbers,
          number_then,
          name_then,
          tied_names,
          tie_numbers,
          tied_numbers,
          tie_names,
          some_is,
        )

  removed_then : (q : List ℕ) → lookup (is_at (slice_cmp nat_cmp q)) (remove_entry (is_at (slice_cmp nat_cmp name)) k.numbers) ≡ cond
      (is_eq (slice_cmp nat_cmp name q)) None (number_of q k)
  removed_then q = lookup_removed nat_list_cmp_total q name k.numbers h.by_name

  taken_then : (m n : ℕ) → get_or (put_at k.names m None) n None ≡ cond (is_eq (nat_cmp m n)) None (name_of n k)
  taken_then m n = grind (arith, cases_Bool, put_same, put_other, is_eq_nat)

  removed_by : (o : Option ℕ) → number_of name k ≡ o
      → IsPaired (record k { numbers = remove_entry (is_at (slice_cmp nat_cmp name)) k.numbers; names = names_without o k.names })
  removed_by None none =
      grind (arith, order_remove (slice_cmp nat_cmp) (is_at (slice_cmp nat_cmp name)) k.numbers, removed_then, tied_names name)
  removed_by (Some m) its_own =
      grind (
        arith,
        order_remove (slice_cmp nat_cmp) (is_at (slice_cmp nat_cmp name)) k.numbers,
        removed_then,
        taken_then m,
        tied_names name,
        tie_names,
        tie_numbers m,
        tied_numbers m,
        some_is,
        length_put None k.names m,
        has_slot k m name,
        h.there name m its_own,
      )

-- the same for any value with these lists
pub paired_to : (k new : Numbering) (name : List ℕ) (n : ℕ) → IsPaired k → number_of name k ≡ None → IsGiven n name k.names new.names
    → new.numbers ≡ insert_entry (slice_cmp nat_cmp) k.numbers name n → IsPaired new
paired_to k new name n h absent given numbers = grind (arith, added_is_paired k h name n absent given.1)

pub removed_to : (k new : Numbering) (name : List ℕ) (o : Option ℕ) → IsPaired k → number_of name k ≡ o
    → new.numbers ≡ remove_entry (is_at (slice_cmp nat_cmp name)) k.numbers → new.names ≡ names_without o k.names → IsPaired new
removed_to k new name o h own numbers names = grind (arith, removed_by k h name o own)

-- The number of a tube is small.
pub number_few : (k : Numbering) (name : List ℕ) (o : Option ℕ) → IsPaired k → number_of name k ≡ o → IfSome o (λ n. n < 2 ^ 30)
number_few k name None h own = tt
number_few k name (Some n) h own = let less = has_slot k n name (h.there name n own) in omega (arith, less, h.few)

-- A tube that keeps its number in another numbering keeps its name there.
module _ (k l : Numbering) (h : IsPaired k) (g : IsPaired l) (n : ℕ) where
  kept_by : (o : Option (List ℕ)) → name_of n k ≡ o → is_some o ≡ true
      → ((name : List ℕ) → name_of n k ≡ Some name → number_of name k ≡ Some n → number_of name l ≡ Some n) → name_of n l ≡ o
  kept_by None its some keeps = absurd cc
  kept_by (Some name) its some keeps = g.there name n (keeps name its (h.back n name its))

  pub name_kept : is_some (name_of n k) ≡ true
      → ((name : List ℕ) → name_of n k ≡ Some name → number_of name k ≡ Some n → number_of name l ≡ Some n) → name_of n l ≡ name_of n k
  name_kept some keeps = kept_by (name_of n k) refl some keeps

-- When a tube is removed, the others keep their numbers.
module _ (k : Numbering) (h : IsPaired k) (name : List ℕ) where
  pub number_left : (other : List ℕ) → is_same_name name other ≡ false → number_of other (without_known name k) ≡ number_of other k
  number_left other apart = removed_then k h name other
      ∙ (let t : is_eq (slice_cmp nat_cmp name other) ≡ false = sym (texts_ties name other) ∙ apart in rw t refl)

-- A removal keeps the number of slots.
module _ (k : Numbering) (h : IsPaired k) (name : List ℕ) where
  many_by : (o : Option ℕ) → number_of name k ≡ o → length (names_without o k.names) ≡ length k.names
  many_by None own = refl
  many_by (Some n) own = length_put None k.names n (has_slot k n name (h.there name n own))

  pub names_many : length (without_known name k).names ≡ length k.names
  names_many = many_by (number_of name k) refl
