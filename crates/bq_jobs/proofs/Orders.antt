-- What additions and removals of jobs do to an order of places.
use Rattle.std.proofs.lemmas.Grind.{common_steps}
use Rattle.std.proofs.Common.{◌≡◌, ℕ, ◌+◌, ◌<◌, ◌≤◌, true, cond, List}
use Rattle.std.proofs.Common.{Option, Some, None, length, arith, refl, sym, ap, ◌∙◌, subst}
use Rattle.std.specs.Prelude.{is_some, ◌==◌}
use Rattle.std.specs.declared.cmp.Ordering.{Ordering}
use Rattle.std.specs.Cmp.{IsTotalOrder}
use Rattle.std.specs.Option.{IfSome}
use Rattle.std.specs.BTreeMap.{is_at}
use Rattle.std.proofs.lemmas.Bool.{cases_Bool}
use Rattle.bq_index.specs.Order.{InOrder}
use Rattle.bq_index.proofs.Order.{length_inserted, length_lost, length_removed, order_insert, order_remove}
use Rattle.bq_job.specs.declared.job.Job.{Job}
use Rattle.bq_job.specs.machine.Changes.{job_with}
use Rattle.bq_job.specs.beside.Lawful.{AreIdsWithin}
use Rattle.bq_jobs.specs.declared.places.ShelfPlace.{ShelfPlace}
use Rattle.bq_jobs.specs.Inside.{IsOrderOf, Order, has_place}
use Rattle.bq_jobs.specs.JobsSeen.{with_added, without}
use Rattle.bq_jobs.specs.Moves.{CanMove}
use Rattle.bq_jobs.specs.PlaceOrder.{place_cmp, place_total, holds_place, with_place, without_place}
use Rattle.bq_jobs.proofs.Changes.{count_added, count_without, found_among_added, found_id}
use Rattle.bq_jobs.proofs.Changes.{found_without, length_added, length_without, not_there}
use Rattle.bq_jobs.proofs.Choice.{lookup_inserted, lookup_removed}

some_unit : (u : Option (Unit {0})) → is_some u ≡ true → u ≡ Some tt
some_unit u h1 = grind arith

-- removing a place, if there is one, does not add any
pub fewer_places : {G : Type 0} (C : G → G → Ordering) (place : Option (ShelfPlace G)) (es : List (ShelfPlace G × Unit {0}))
    → length (without_place C place es) ≤ length es
fewer_places C place es = grind (arith, length_lost)

module _ {G : Type 0} {C : G → G → Ordering} (o : IsTotalOrder C) where
  module _ (place_of : Job → Option (ShelfPlace G)) (own : (j : Job) → IfSome (place_of j) (λ p. p.id ≡ j.id)) where
    -- if a job is absent, its places are free
    pub absent_place : (j : Job) (jobs : List Job) (room : ℕ) (order : Order G) → IsOrderOf C place_of jobs room order
        → job_with j.id jobs ≡ None → (p : ShelfPlace G) → p.id ≡ j.id → holds_place C p order.entries ≡ None
    absent_place j jobs room order h free p same = grind arith

    -- if a job is present, its place is taken
    pub held_place : (id : ℕ) (j : Job) (jobs : List Job) (room : ℕ) (order : Order G) → IsOrderOf C place_of jobs room order
        → job_with id jobs ≡ Some j → (p : ShelfPlace G) → place_of j ≡ Some p → is_some (holds_place C p order.entries) ≡ true
    held_place id j jobs room order h found p e = grind (arith, found_id id jobs j found)

    -- places stay ordered when one is added or removed
    sorted_with : (place : Option (ShelfPlace G)) (es : List (ShelfPlace G × Unit {0})) → InOrder (place_cmp C) es
        → InOrder (place_cmp C) (with_place C place es)
    sorted_with None es s = s
    sorted_with (Some p) es s = order_insert (place_total o) p tt es s

    sorted_without : (place : Option (ShelfPlace G)) (es : List (ShelfPlace G × Unit {0})) → InOrder (place_cmp C) es
        → InOrder (place_cmp C) (without_place C place es)
    sorted_without place es h2 = grind (arith, order_remove)

    -- after an addition
    added_places : (j : Job) (place : Option (ShelfPlace G)) (jobs : List Job) (room : ℕ) (order : Order G) → place_of j ≡ place
        → IfSome place (λ p. p.id ≡ j.id) → IsOrderOf C place_of jobs room order → job_with j.id jobs ≡ None
        → (q : ShelfPlace G) → is_some (holds_place C q (with_place C place order.entries)) ≡ has_place C place_of q
        (cond (j.id == q.id) (Some j) (job_with q.id jobs))
    added_places j None jobs room order e own h free q = grind arith
    added_places j (Some p) jobs room order e own h free q =
        grind (
          arith,
          common_steps,
          lookup_inserted (place_total o) q p tt order.entries,
          absent_place j jobs room order h free p own,
          cases_Bool (j.id == q.id),
        )

    added_length : (j : Job) (place : Option (ShelfPlace G)) (jobs : List Job) (room : ℕ) (order : Order G)
        → IfSome place (λ p. p.id ≡ j.id) → IsOrderOf C place_of jobs room order → job_with j.id jobs ≡ None
        → length (with_place C place order.entries) ≡ cond (is_some place) 1 0 + length order.entries
    added_length j place jobs room order h5 h6 h7 = grind (arith, length_inserted)

    pub order_added : (j : Job) (jobs : List Job) (room less : ℕ) (order new : Order G) → IsOrderOf C place_of jobs room order
        → job_with j.id jobs ≡ None → less + 1 ≡ room
        → new.entries ≡ with_place C (place_of j) order.entries → new.spare + cond (is_some (place_of j)) 1 0 ≡ order.spare
        → IsOrderOf C place_of (with_added j jobs) less new
    order_added j jobs room less order new h free l entries spare =
        let long = ap length entries ∙ added_length j (place_of j) jobs room order (own j) h free in
        record {
          places = λ q. ap (λ es. is_some (holds_place C q es)) entries ∙ added_places j (place_of j) jobs room order refl (own j) h free q
              ∙ sym (ap (has_place C place_of q) (found_among_added q.id j jobs));
          counted = omega (arith, long, h.counted, count_added (λ k. is_some (place_of k)) j jobs);
          roomy = omega (arith, long, spare, h.roomy, length_added j jobs, l);
          sorted = subst (InOrder (place_cmp C)) (sym entries) (sorted_with (place_of j) order.entries h.sorted);
        }

    -- after a removal
    removed_places : (id : ℕ) (j : Job) (place : Option (ShelfPlace G)) (jobs : List Job) (room : ℕ) (order : Order G) → place_of j ≡ place
        → IfSome place (λ p. p.id ≡ j.id) → IsOrderOf C place_of jobs room order → job_with id jobs ≡ Some j
        → InOrder (place_cmp C) order.entries
        → (q : ShelfPlace G) → is_some (holds_place C q (without_place C place order.entries)) ≡ has_place C place_of q
        (cond (id == q.id) None (job_with q.id jobs))
    removed_places id j None jobs room order e own h found s q = grind arith
    removed_places id j (Some p) jobs room order e own h found s q =
        grind (arith, common_steps, lookup_removed (place_total o) q p order.entries s, found_id id jobs j found, cases_Bool (id == q.id))

    removed_length : (id : ℕ) (j : Job) (place : Option (ShelfPlace G)) (jobs : List Job) (room : ℕ) (order : Order G) → place_of j ≡ place
        → IsOrderOf C place_of jobs room order → job_with id jobs ≡ Some j
        → cond (is_some place) 1 0 + length (without_place C place order.entries) ≡ length order.entries
    removed_length id j None jobs room order e h found = omega arith
    removed_length id j (Some p) jobs room order e h found =
        let held = some_unit (holds_place C p order.entries) (held_place id j jobs room order h found p e) in
        omega (arith, length_removed (is_at (place_cmp C p)) order.entries (Some (p, tt)) refl (sym held))

    pub order_removed : (low next id : ℕ) (j : Job) (jobs : List Job) (room more : ℕ) (order new : Order G)
        → IsOrderOf C place_of jobs room order → AreIdsWithin low jobs next → job_with id jobs ≡ Some j → more ≡ room + 1
        → new.entries ≡ without_place C (place_of j) order.entries → new.spare ≡ order.spare + cond (is_some (place_of j)) 1 0
        → IsOrderOf C place_of (without id jobs) more new
    order_removed low next id j jobs room more order new h ids found m entries spare =
        grind (
          arith,
          removed_length id j (place_of j) jobs room order,
          removed_places id j (place_of j) jobs room order,
          found_without,
          count_without (λ k. is_some (place_of k)) low next,
          length_without low next,
          sorted_without,
          own j,
        )

    -- a job moves from its place to that of k, which has the same id
    module _ (low next id : ℕ) (j k : Job) (jobs : List Job) (room : ℕ) (order : Order G) (h : IsOrderOf C place_of jobs room order)
        (ids : AreIdsWithin low jobs next) (found : job_with id jobs ≡ Some j) (same : k.id ≡ id) where
      abbrev left : Order G
      left = record {
        entries = without_place C (place_of j) order.entries;
        spare = order.spare + cond (is_some (place_of j)) 1 0;
        comparisons = order.comparisons;
      }

      -- the order after the job has left its place
      once_left : IsOrderOf C place_of (without id jobs) (room + 1) left
      once_left = order_removed low next id j jobs room (room + 1) order left h ids found refl refl refl

      free_then : job_with k.id (without id jobs) ≡ None
      free_then = ap (λ n. job_with n (without id jobs)) same ∙ not_there id jobs

      has_spare_then : 0 < order.spare + cond (is_some (place_of j)) 1 0
      has_spare_then = grind (arith, common_steps, once_left)

      absent_then : (p : ShelfPlace G) → place_of k ≡ Some p → holds_place C p (without_place C (place_of j) order.entries) ≡ None
      absent_then p e = grind (arith, absent_place, once_left, free_then)

      -- so the job can move
      pub can_move : (from to : Option (ShelfPlace G)) → from ≡ place_of j → to ≡ place_of k → CanMove C from to order
      can_move from to left entered = grind (arith, held_place id j jobs room order h found, has_spare_then, absent_then)

      pub order_moved : (new : Order G) → new.entries ≡ with_place C (place_of k) (without_place C (place_of j) order.entries)
          → new.spare + cond (is_some (place_of k)) 1 0 ≡ order.spare + cond (is_some (place_of j)) 1 0
          → IsOrderOf C place_of (with_added k (without id jobs)) room new
      order_moved new entries spare = order_added k (without id jobs) (room + 1) room left new once_left free_then refl entries spare
