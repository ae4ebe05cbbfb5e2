-- The order of names, eight bytes at a time.
use Rattle.std.proofs.Common.{◌++◌, ◌+◌, ◌*◌, ◌-◌, ◌<◌, ◌≤◌, ◌∙◌, ◌∷◌, ◌≡◌, List, [], ℕ}
use Rattle.std.proofs.Common.{drop, get_or, zero, suc, ap, arith, length, refl, replicate, sym, take, true}
use Rattle.std.proofs.lemmas.Grind.{common_steps}
use Rattle.std.proofs.lemmas.{Bool.{and_parts, cases_order, Decides.nat_tests}, List.take-replicate, Nat.mul-le}
use Rattle.std.proofs.Math.Seq.{take-append-add}
use Rattle.std.specs.Cmp.Lexicographic.{slice_cmp}
use Rattle.std.specs.Int.{from_be_bytes, w64}
use Rattle.std.specs.List.{list_all}
use Rattle.std.specs.Ordering.{nat_cmp, ordering_then}
use Rattle.std.specs.declared.cmp.Ordering.{Ordering, TheVariants.{Less, Equal, Greater}}
use Rattle.bq_job.specs.reading.TubeName.{filled_up, is_tube_name, name_byte}

less_is : (a b : ℕ) → a < b → nat_cmp a b ≡ Less
less_is a b h = grind (arith, nat_tests)

more_is : (a b : ℕ) → b < a → nat_cmp a b ≡ Greater
more_is a b h = grind (arith, nat_tests)

one_more_times : (a b p : ℕ) → a < b → a * p + p ≤ b * p
one_more_times a b p h = grind (arith, common_steps, mul-le)

-- The leading digit decides the order of two numbers; if it is equal, the rest does.
digit : (p a b x y : ℕ) → x < p → y < p → nat_cmp (a * p + x) (b * p + y) ≡ ordering_then (nat_cmp a b) (nat_cmp x y)
digit p a b x y small others = grind (arith, common_steps, cases_order, less_is, one_more_times, more_is)

-- bytes as the digits of one number, and the first number that `n` bytes cannot write
abbrev weight : ℕ → ℕ
weight zero = 1
weight (suc n) = 256 * weight n

abbrev worth : List ℕ → ℕ
worth [] = 0
worth (x ∷ xs) = x * weight (length xs) + worth xs

abbrev AreBytes : List ℕ → Type 0
AreBytes xs = (i : ℕ) → get_or xs i 0 < 256

worth_fits : (xs : List ℕ) → AreBytes xs → worth xs < weight (length xs)
worth_fits [] small = omega arith
worth_fits (x ∷ xs) small =
    omega (arith, worth_fits xs (λ i. small (suc i)), one_more_times x 256 (weight (length xs)) (small 0))

worth_in_order : (xs ys : List ℕ) → length xs ≡ length ys → AreBytes xs → AreBytes ys
    → nat_cmp (worth xs) (worth ys) ≡ slice_cmp nat_cmp xs ys
worth_in_order [] [] e small others = refl
worth_in_order [] (y ∷ ys) e small others = absurd (omega arith)
worth_in_order (x ∷ xs) [] e small others = absurd (omega arith)
worth_in_order (x ∷ xs) (y ∷ ys) e small others =
    let same : length xs ≡ length ys = omega arith in
    let below : worth ys < weight (length xs) = rw same (worth_fits ys (λ i. others (suc i))) in
    let first = digit (weight (length xs)) x y (worth xs) (worth ys) (worth_fits xs (λ i. small (suc i))) below in
    rw (sym same) (first ∙ ap (ordering_then (nat_cmp x y)) (worth_in_order xs ys same (λ i. small (suc i)) (λ i. others (suc i))))

-- two lists that begin with equally many elements
seam : (xs ys rest others : List ℕ) → length xs ≡ length ys
    → slice_cmp nat_cmp (xs ++ rest) (ys ++ others) ≡ ordering_then (slice_cmp nat_cmp xs ys) (slice_cmp nat_cmp rest others)
seam [] ys rest others e = grind arith
seam (x ∷ xs) [] rest others e = absurd (omega arith)
seam (x ∷ xs) (y ∷ ys) rest others e = grind (arith, common_steps, seam xs ys rest others (omega arith))

pub words_same : (w v : ℕ) (o : Ordering) → w ≡ v → ordering_then (nat_cmp w v) o ≡ o
words_same w v o e = grind arith

-- the first eight bytes of a list, and the rest
abbrev front_of : List ℕ → List ℕ
front_of xs = get_or xs 0 0 ∷ get_or xs 1 0 ∷ get_or xs 2 0 ∷ get_or xs 3 0 ∷ get_or xs 4 0 ∷ get_or xs 5 0 ∷ get_or xs 6 0
    ∷ get_or xs 7 0 ∷ []

front_8 : (xs : List ℕ) → 8 ≤ length xs → xs ≡ front_of xs ++ drop 8 xs
front_8 xs h1 = grind arith

abbrev word_of : List ℕ → ℕ
word_of xs = from_be_bytes w64 (front_of xs)

word_is : (xs : List ℕ) → word_of xs ≡ worth (front_of xs)
word_is xs = omega arith

-- the order of two lists: by their first eight bytes as numbers, and if these are equal, by the
-- rest
module _ (xs ys : List ℕ) (long : 8 ≤ length xs) (other_long : 8 ≤ length ys) (small : AreBytes (front_of xs))
    (other_small : AreBytes (front_of ys)) where
  split : slice_cmp nat_cmp xs ys ≡ ordering_then (nat_cmp (word_of xs) (word_of ys)) (slice_cmp nat_cmp (drop 8 xs) (drop 8 ys))
  split =
      let fronts = seam (front_of xs) (front_of ys) (drop 8 xs) (drop 8 ys) refl in
      let order = worth_in_order (front_of xs) (front_of ys) refl small other_small in
      ap (λ zs. slice_cmp nat_cmp zs ys) (front_8 xs long) ∙ ap (slice_cmp nat_cmp (front_of xs ++ drop 8 xs)) (front_8 ys other_long)
      ∙ fronts ∙ rw (word_is xs, word_is ys, order) refl

  module _ (w v : ℕ) (r : Ordering) (word : w ≡ word_of xs) (other : v ≡ word_of ys) where
    pub words : slice_cmp nat_cmp xs ys ≡ ordering_then (nat_cmp w v) (slice_cmp nat_cmp (drop 8 xs) (drop 8 ys))
    words = grind (arith, common_steps, split)

    -- and otherwise they do
    pub words_decide : (w ≡ v → ⊥) → r ≡ nat_cmp w v → r ≡ slice_cmp nat_cmp xs ys
    words_decide apart is = grind (arith, words)

-- Zeros after two names do not change their order, since no byte of a name is 0.
zeros : (n : ℕ) → slice_cmp nat_cmp (replicate n 0) (replicate n 0) ≡ Equal
zeros zero = refl
zeros (suc n) = zeros n

byte_pos : (b : ℕ) → name_byte b ≡ true → 0 < b
byte_pos b h1 = grind (arith, common_steps)

padded : (m n : ℕ) (a b : List ℕ) → length a + m ≡ length b + n → list_all name_byte a ≡ true → list_all name_byte b ≡ true
    → slice_cmp nat_cmp (a ++ replicate m 0) (b ++ replicate n 0) ≡ slice_cmp nat_cmp a b
padded m n [] [] e p q = let same : m ≡ n = omega arith in ap (λ k. slice_cmp nat_cmp (replicate m 0) (replicate k 0)) (sym same) ∙ zeros m
padded zero n [] (y ∷ b) e p q = absurd (omega arith)
padded (suc m) n [] (y ∷ b) e p q = rw (less_is 0 y (byte_pos y ((and_parts (name_byte y) (list_all name_byte b) q).0))) refl
padded m zero (x ∷ a) [] e p q = absurd (omega arith)
padded m (suc n) (x ∷ a) [] e p q = rw (more_is x 0 (byte_pos x ((and_parts (name_byte x) (list_all name_byte a) p).0))) refl
padded m n (x ∷ a) (y ∷ b) e p q = grind (arith, and_parts, padded m n a b)

-- the front of the array of a name
front_is : (name : List ℕ) (k : ℕ) → length name ≤ k → k ≤ 200 → take k (filled_up name) ≡ name ++ replicate (k - length name) 0
front_is name k long fits = grind (arith, take-replicate, take-append-add name (replicate (200 - length name) 0) (k - length name))

-- The arrays of two names are in the order of the names,
pub wholes_compare : (a b bytes others : List ℕ) → bytes ≡ filled_up a → others ≡ filled_up b → is_tube_name a ≡ true
    → is_tube_name b ≡ true → length a ≤ 200 → length b ≤ 200
    → slice_cmp nat_cmp bytes others ≡ slice_cmp nat_cmp a b
wholes_compare a b bytes others is other_is named other_named long other_long = grind (arith, common_steps, padded, and_parts)

-- and so are their fronts, as far as both names go.
pub fronts_compare : (a b bytes others : List ℕ) (k : ℕ) → bytes ≡ filled_up a → others ≡ filled_up b → is_tube_name a ≡ true
    → is_tube_name b ≡ true → length a ≤ k → length b ≤ k → k ≤ 200
    → slice_cmp nat_cmp (take k bytes) (take k others) ≡ slice_cmp nat_cmp a b
fronts_compare a b bytes others k is other_is named other_named long other_long fits = grind (arith, front_is, padded, and_parts)
