-- Seats that enter and leave the lists of an event loop.
use Rattle.std.proofs.Common.{ℕ, zero, suc, ◌≡◌, ◌+◌, ◌-◌, ◌≤◌, ◌<◌, true, List, [], ◌∷◌, ◌++◌, length}
use Rattle.std.proofs.Common.{nat_lt, replicate, slice_set, slice_index_or, refl, ap, ◌∙◌, arith, append_assoc, append-nil}
use Rattle.std.specs.List.{count_by}
use Rattle.std.proofs.lemmas.Grind.{common_steps}
use Rattle.std.proofs.lemmas.List.{get_or-replicate, get_or-set_same, get_or_past, length-replicate}
use Rattle.std.proofs.lemmas.List.Folds.{sum_by-replicate}
use Rattle.std.proofs.lemmas.Bool.{cases_lt, lt-ltb}
use Rattle.std.proofs.lemmas.Bool.Decides.{nat_tests}
use Rattle.bq_host.proofs.MarkLemmas.{has_mark, left, marked, none_marked, one_if, stayed, within}
use Rattle.bq_event_loop.specs.Listings.{AreMarked, IsDisjoint, falling, is_free, is_queued}
use Rattle.bq_host.specs.Marks.{HasMarks, times}
use Rattle.bq_event_loop.specs.declared.seat_queue.Listed.{Listed}
use Rattle.bq_event_loop.specs.declared.seat_queue.Listed.TheVariants as lists

free_is : (y : Listed) → is_free y ≡ true → y ≡ lists.Free
free_is y h1 = grind arith

-- The first of the queue leaves.
pub left_queue : {s : ℕ} {before queue free : List ℕ} {marks : List Listed} → before ≡ s ∷ queue → AreMarked before free marks
    → (s < length marks) × AreMarked queue free (slice_set marks s lists.Nowhere)
left_queue {s} {before} {queue} {free} {marks} first are =
    let mark = marked is_queued lists.Nowhere [] queue marks s (rw first at are.0) in
    grind (arith, common_steps, left, stayed, within)

-- The last of the free seats leaves, and is free no more.
pub left_free : {s : ℕ} {before queue free : List ℕ} {marks : List Listed} → before ≡ free ++ s ∷ [] → AreMarked queue before marks
    → (s < length marks) × AreMarked queue free (slice_set marks s lists.Nowhere) × (times s free ≡ 0)
left_free {s} {before} {queue} {free} {marks} last are =
    let has = rw last at are.1 in
    let below = within is_free lists.Nowhere free [] marks s refl has in
    let mark = free_is _ (marked is_free lists.Nowhere free [] marks s has) in
    let less : HasMarks is_free lists.Nowhere free (slice_set marks s lists.Nowhere) =
    rw append-nil at (left is_free lists.Nowhere free [] marks s lists.Nowhere has below refl) in
    let kept = stayed is_queued lists.Nowhere queue marks s lists.Nowhere are.0 below (ap is_queued mark) in
    (below, (kept, less), grind (arith, get_or-set_same, less.each s))

-- No seat is in both lists, or twice in one.
pub disjoint : (queue free : List ℕ) (marks : List Listed) (round at : ℕ) → AreMarked queue free marks
    → IsDisjoint (record { seats = length marks; queue = queue; free = free; round = round; at = at })
disjoint queue free marks round at are = record { once = once; within = beyond } where
  most : (y : Listed) → one_if (is_queued y) + one_if (is_free y) ≤ 1
  most y = grind arith

  once : (seat : ℕ) → times seat queue + times seat free ≤ 1
  once seat = omega (arith, are.0.each seat, are.1.each seat, most (slice_index_or marks seat lists.Nowhere))

  beyond : (seat : ℕ) → length marks ≤ seat → times seat queue + times seat free ≡ 0
  beyond seat past =
      let none : slice_index_or marks seat lists.Nowhere ≡ lists.Nowhere = get_or_past marks seat lists.Nowhere past in
      grind arith

-- the largest number leaves
falling_next : (n m : ℕ) → n ≡ suc m → falling n ≡ m ∷ falling m
falling_next n m is = ap falling is

pub falling_more : (n k : ℕ) (xs : List ℕ) → k < n → falling n ≡ xs ++ falling (n - k)
    → falling n ≡ (xs ++ (n - 1 - k) ∷ []) ++ falling (n - (k + 1))
falling_more n k xs below is = grind (arith, falling_next, append_assoc)

length_falling : (n : ℕ) → length (falling n) ≡ n
length_falling zero = refl
length_falling (suc n) = ap suc (length_falling n)

-- each number below n is once in `falling n`
falls : (n t : ℕ) → times t (falling n) ≡ one_if (nat_lt t n)
falls zero t = grind arith
falls (suc n) t = grind (arith, common_steps, one_if, nat_tests, falls n t)

pub falls_once : (n t : ℕ) → t < n → times t (falling n) ≡ 1
falls_once n t below = falls n t ∙ ap one_if (lt-ltb t n below)

-- All seats are free at first.
all_marked : (n : ℕ) → AreMarked [] (falling n) (replicate n lists.Free)
all_marked n = (none_marked is_queued lists.Nowhere n lists.Free refl refl, record { each = each; many = many }) where
  each : (t : ℕ) → times t (falling n) ≡ has_mark is_free lists.Nowhere (replicate n lists.Free) t
  each t = let below = cases_lt t n in grind (arith, nat_tests, falls n t, get_or-replicate, get_or_past, length-replicate)

  many : length (falling n) ≡ count_by is_free (replicate n lists.Free)
  many = length_falling n ∙ grind (arith, common_steps, sum_by-replicate (λ x. one_if (is_free x)) n lists.Free)

pub new_marked : (n : ℕ) (queue free : List ℕ) (marks : List Listed) → queue ≡ [] → free ≡ falling n → marks ≡ replicate n lists.Free
    → AreMarked queue free marks
new_marked n queue free marks empty all same = grind (arith, all_marked n)
