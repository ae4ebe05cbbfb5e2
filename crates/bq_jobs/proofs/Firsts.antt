-- The orders of places, and the jobs that pass the test of each.
use Rattle.std.proofs.lemmas.Grind.{common_steps}
use Rattle.std.proofs.Common.{◌≡◌, ◌<◌, ◌+◌, ◌*◌, ℕ, true, false, ◌&&◌, List, rules, length, arith, sym, ap, ◌∙◌}
use Rattle.std.specs.Prelude.{◌==◌}
use Rattle.std.specs.Option.{IfSome}
use Rattle.std.specs.declared.cmp.Ordering.{Ordering}
use Rattle.std.specs.Cmp.{tied_then}
use Rattle.std.specs.Cmp.Lexicographic.{texts_ties}
use Rattle.std.specs.Ordering.{is_eq, nat_cmp, ordering_then}
use Rattle.std.proofs.lemmas.Bool.{cases_Bool}
use Rattle.std.proofs.lemmas.Bool.Decides.{nat_tests}
use Rattle.bq_job.specs.declared.job.Job.{Job}
use Rattle.bq_job.specs.reading.TubeName.{is_same_name}
use Rattle.bq_jobs.specs.contracts.places.GroupOrd.TheImpl as group_ord
use Rattle.bq_jobs.specs.contracts.places.TimerOrd.TheImpl as timer_ord
use Rattle.bq_jobs.specs.declared.places.Holder.{Holder}
use Rattle.bq_jobs.specs.declared.places.Timer.{Timer}
use Rattle.bq_jobs.specs.Names.{name_cmp, number_in}
use Rattle.bq_jobs.specs.Places.{timer_place, group_place}
use Rattle.bq_jobs.proofs.ById.{is_eq_nat}

abbrev pub group_cmp : Holder → Holder → Ordering
group_cmp = group_ord.ghosts.cmp

abbrev pub timer_cmp : Timer → Timer → Ordering
timer_cmp = timer_ord.ghosts.cmp

-- equal names have equal lengths
same_length : (a b : List ℕ) → is_same_name a b ≡ true → length a ≡ length b
same_length a b h = grind (arith, common_steps)

then_on : (a b : Ordering) → is_eq a ≡ true → is_eq (ordering_then a b) ≡ is_eq b
then_on a b h = sym (tied_then a b) ∙ ap (λ t. t && is_eq b) h

-- names compare equal exactly if they are the same
pub name_ties : (a b : List ℕ) → is_same_name a b ≡ is_eq (name_cmp a b)
name_ties a b = grind (arith, common_steps, cases_Bool, nat_tests, texts_ties a b, same_length a b, is_eq_nat)

-- lists of one kind are the same exactly if their tubes are,
pub list_ties : (k : ℕ) (a b : List ℕ) → is_same_name a b ≡ is_eq
    (ordering_then (nat_cmp (number_in a * 4 + k) (number_in b * 4 + k)) (name_cmp a b))
list_ties k a b = search (rules, cases_Bool, name_ties, then_on, is_eq_nat, nat_tests)

-- a place has the id of its job
pub group_own : (j : Job) → IfSome (group_place j) (λ p. p.id ≡ j.id)
group_own j = grind arith

pub timer_own : (j : Job) → IfSome (timer_place j) (λ p. p.id ≡ j.id)
timer_own j = grind arith

-- lists of two kinds are not the same
pub other_list : (i k : ℕ) (tube : List ℕ) (j : Job) → i < 4 → k < 4 → (k == i) ≡ false
    → false ≡ is_eq (ordering_then (nat_cmp (number_in tube * 4 + i) (number_in j.tube * 4 + k)) (name_cmp tube j.tube))
other_list i k tube j few less other = search rules
