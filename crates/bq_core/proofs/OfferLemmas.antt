-- What a walk over the waiting clients finds for them.
use Rattle.std.{proofs.{Common.{List, None, [], ap, arith, refl, sym, ◌∙◌, ◌∷◌, ◌≡◌}, lemmas.Grind.common_steps}, specs.List.sum_by}
use Rattle.std.specs.Prelude.{fold}
use Rattle.bq_core.proofs.DispatchLemmas.{ranks_swap}
use Rattle.bq_job.specs.{declared.job.Job.Job, machine.{SeatRecord, TubeRecord}}
use Rattle.bq_jobs.specs.{JobsSeen.JobsSeen, Searching.Asks}
use Rattle.bq_state.{proofs.{SeatPlaces.place_is_seat, WalkLemmas.walked}, specs.{Cost.waited_tubes, Offers.with_offers}}
use Rattle.bq_state.specs.{SeatChanges.AreNumbered, WaitingList.{by_seat, waited_at, waiters_of}}

-- a fold in which the order of elements does not matter
module _ {A B : Type 0} (g : B → A → B) (swap : (b : B) (x y : A) → g (g b x) y ≡ g (g b y) x) where
  one_later : (b : B) (y : A) (xs : List A) → fold g (g b y) xs ≡ g (fold g b xs) y
  one_later b y [] = refl
  one_later b y (x ∷ xs) = ap (λ c. fold g c xs) (swap b y x) ∙ one_later (g b x) y xs

  folds_swap : (b : B) (xs ys : List A) → fold g (fold g b xs) ys ≡ fold g (fold g b ys) xs
  folds_swap b xs [] = refl
  folds_swap b xs (y ∷ ys) = ap (λ c. fold g c ys) (sym (one_later b y xs)) ∙ folds_swap (g b y) xs ys

fold_same : {A B : Type 0} (g h : B → A → B) → ((b : B) (x : A) → g b x ≡ h b x) → (b : B) (xs : List A) → fold g b xs ≡ fold h b xs
fold_same g h same b xs = λ i. fold (λ c x. same c x i) b xs

pub offers_walked : (jobs : List Job) (entries : List TubeRecord) (seats : List SeatRecord) → AreNumbered seats
    → fold (by_seat (with_offers jobs entries) seats) None (waiters_of seats) ≡ fold (with_offers jobs entries) None seats
offers_walked jobs entries seats h = grind (arith, common_steps, fold_same, place_is_seat, walked, folds_swap, ranks_swap)

pub asks_walked : (seats : List SeatRecord) {old new : JobsSeen} → AreNumbered seats
    → Asks (sum_by (waited_at seats) (waiters_of seats)) old new
    → Asks (sum_by waited_tubes seats) old new
asks_walked seats {old = old} {new = new} numbered asked = grind (arith, common_steps, fold_same, place_is_seat, walked)
