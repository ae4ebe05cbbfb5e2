-- Sums of searches.
use Rattle.std.proofs.{Common.{List, ap, arith, get_or, length, max, refl, take, ℕ, ◌*◌, ◌+◌, ◌<◌, ◌≤◌}, Math.Nat.add-mul}
use Rattle.std.{proofs.lemmas.{Grind.common_steps, Nat.mul-le}, specs.List.sum_by}
use Rattle.bq_core_api.specs.Cost.{changed_jobs}
use Rattle.bq_index.{proofs.Bound.digits_rise, specs.Digits.binary_digits}
use Rattle.bq_jobs.specs.{JobsSeen.{ComparesAtMost, JobsSeen}, Searching.Asks}
use Rattle.bq_state.proofs.{DueLemmas.warnings_walked, WaitingLemmas.count_of_waiters, WarningLemmas.{none_due, one_due, one_waits}}
use Rattle.bq_state.specs.Asking.{AsksAsChanged, AsksWithin, search_among}

-- among more jobs, a search takes at least as many comparisons
pub search_grows : (i j : ℕ) → i ≤ j → search_among i ≤ search_among j
unfolding binary_digits
search_grows i j l = omega (arith, digits_rise (2 * i + 2) (2 * j + 2) (2 * i + 2) (2 * j + 2) (omega arith) (omega arith))

-- no search
pub asks_none : (k : JobsSeen) → Asks 0 k k
asks_none k = record { many = refl; stays = omega arith; rise = omega arith }

-- first these searches, and then those
pub asks_then : {n k : ℕ} {first between last : JobsSeen} → Asks n first between → Asks k between last → Asks (n + k) first last
asks_then {n = n} {k = k} {first = first} {between = between} {last = last} a b = grind (arith, common_steps, add-mul)

-- a turn of a loop with one search for each element that passes
pub asks_summed : {A : Type 0} (f : A → ℕ) (xs : List A) (i : ℕ) (d : A) {first between last : JobsSeen} → i < length xs
    → Asks (sum_by f (take i xs)) first between → Asks (f (get_or xs i d)) between last → Asks (sum_by f (take (i + 1) xs)) first last
asks_summed f xs i d {first = first} {last = last} fits a b = grind (arith, common_steps)

-- this many searches are no more than more of them
pub asks_more : {n : ℕ} (k : ℕ) {old new : JobsSeen} → n ≤ k → Asks n old new → Asks k old new
asks_more {n = n} k {old = old} l a = grind (arith, common_steps, mul-le)

-- the client for which a warning is due, and the searches for it, under a name that an attribute
-- can cite
pub ruleset warnings_asked = (common_steps, asks_more, count_of_waiters, warnings_walked, none_due, one_due, one_waits)

pub within : {n : ℕ} (k : ℕ) {old new : JobsSeen} → n ≤ k → Asks n old new → AsksWithin k old new
within {n = n} k {old = old} {new = new} l a = grind (arith, common_steps, mul-le, search_grows)

-- the searches before the one that adds or removes a job
pub asked_before : (n k : ℕ) {old between new : JobsSeen} → n + k ≤ 10 → Asks n old between → ComparesAtMost k between new
    → AsksAsChanged old new
asked_before n k {old = old} {between = between} {new = new} few a b =
    let s = search_among (length old.jobs) in
    let t = search_among (max (length old.jobs) (length new.jobs)) in
    let sum = mul-le (n + k) s (9 * changed_jobs old.jobs new.jobs + 10) t (omega arith) (search_grows _ _ (omega arith)) in
    omega (arith, ap (λ i. k * search_among i) a.many, add-mul n k s)
