-- The first place of a group is the place of its first job.
use Rattle.std.proofs.Common.{◌≡◌, ℕ, Bool, true, false, List, Option, Some, None, arith, refl, sym, ap, ◌∙◌, subst, rules}
use Rattle.std.specs.Prelude.{is_some, ◌==◌}
use Rattle.std.specs.declared.cmp.Ordering.{Ordering}
use Rattle.std.specs.declared.cmp.Ordering.TheVariants.{Equal}
use Rattle.std.specs.Cmp.{IsTotalOrder}
use Rattle.std.specs.Ordering.{is_eq, is_gt, nat_cmp, ordering_then}
use Rattle.std.specs.Option.{IfSome, option_map}
use Rattle.std.specs.List.{Contains}
use Rattle.std.proofs.lemmas.Bool.{false_from_ne_true}
use Rattle.std.proofs.lemmas.Bool.Decides.{nat_tests}
use Rattle.bq_index.specs.Order.{InOrder, entry_from}
use Rattle.bq_job.specs.declared.job.Job.{Job}
use Rattle.bq_job.specs.machine.Changes.{first_of, is_pair_before, job_with}
use Rattle.bq_job.specs.beside.Lawful.{AreIdsWithin}
use Rattle.bq_job.proofs.ChoiceLemmas.{first_of_is, first_of_none_passes, pair_order}
use Rattle.bq_job.proofs.ListLemmas.{all_from_members, found_passes, list_any_not}
use Rattle.bq_jobs.specs.declared.places.ShelfPlace.{ShelfPlace}
use Rattle.bq_jobs.specs.Inside.{IsOrderOf, Order, is_place}
use Rattle.bq_jobs.specs.JobsSeen.{ranked}
use Rattle.bq_jobs.specs.PlaceOrder.{place_total, front, first_rank, holds_place, place_cmp}
use Rattle.bq_jobs.proofs.Changes.{found_by_id, found_id}
use Rattle.bq_jobs.proofs.Choice.{equal_from, found_below, from_found, from_least, from_not_below}
use Rattle.bq_jobs.proofs.Choice.{numbers_tie, pair_not_after, then_equal_first, then_equal_second}
use Rattle.bq_jobs.proofs.Orders.{held_place}

-- whether a place is in the group
abbrev pub in_group : {G : Type 0} → (G → G → Ordering) → G → Option (ShelfPlace G) → Bool
in_group C g None = false
in_group C g (Some p) = is_eq (C g p.group)

-- the number and the id of a place
abbrev rank_at : {G : Type 0} → ShelfPlace G × Unit {0} → ℕ × ℕ
rank_at e = (e.0.at, e.0.id)

then_tied : (a b : Ordering) → a ≡ Equal → is_gt (ordering_then a b) ≡ false → is_gt b ≡ false
then_tied a b e h = grind arith

same_pairs : (a i b j c k d l : ℕ) → a ≡ c → i ≡ k → b ≡ d → j ≡ l → is_pair_before a i b j ≡ false → is_pair_before c k d l ≡ false
same_pairs a i b j c k d l e f g h is = grind (arith, nat_tests)

module _ {G : Type 0} {C : G → G → Ordering} (o : IsTotalOrder C) (g : G) where
  -- no place of the group is below its front
  front_first : (p : ShelfPlace G) → is_eq (C g p.group) ≡ true → is_gt (place_cmp C (front C g) p) ≡ false
  front_first p h = grind arith

  -- every place between the front and a place of the group is in the group
  between : (k q : ShelfPlace G) → is_gt (place_cmp C (front C g) k) ≡ false → is_gt (place_cmp C k q) ≡ false → is_eq (C g q.group) ≡ true
      → is_eq (C g k.group) ≡ true
  between k q l u h = search (rules, equal_from)

  module _ (place_of : Job → Option (ShelfPlace G)) (own : (j : Job) → IfSome (place_of j) (λ p. p.id ≡ j.id))
      (passes : Job → Bool) (number : Job → ℕ)
      (grouped : (j : Job) → passes j ≡ in_group C g (place_of j))
      (numbered : (j : Job) (p : ShelfPlace G) → place_of j ≡ Some p → passes j ≡ true → p.at ≡ number j) where
    -- a job that passes, and its place
    record Placed (j : Job) : Type 0 where
      place : ShelfPlace G
      is : place_of j ≡ Some place
      group : is_eq (C g place.group) ≡ true
      at : place.at ≡ number j
      id : place.id ≡ j.id

    placed_in : (j : Job) (place : Option (ShelfPlace G)) → place_of j ≡ place → passes j ≡ true → Placed j
    placed_in j None e h = grind (arith, grouped j)
    placed_in j (Some p) e h = record {
      place = p;
      is = e;
      group = grind (arith, grouped j);
      at = numbered j p e h;
      id = grind (arith, own j);
    }

    placed : (j : Job) → passes j ≡ true → Placed j
    placed j h = placed_in j (place_of j) refl h

    abbrev before : Job → Job → Bool
    before a b = is_pair_before (number a) a.id (number b) b.id

    module _ (low next : ℕ) (jobs : List Job) (room : ℕ) (order : Order G) (h : IsOrderOf C place_of jobs room order)
        (ids : AreIdsWithin low jobs next) (s : InOrder (place_cmp C) order.entries) where
      held : (j : Job) → Contains jobs j → (p : ShelfPlace G) → place_of j ≡ Some p → is_some (holds_place C p order.entries) ≡ true
      held j i p e = held_place o place_of own j.id j jobs room order h (found_by_id low next jobs j ids i) p e

      none_passes : ((j : Job) → Contains jobs j → Placed j → ⊥) → first_of passes before jobs ≡ None
      none_passes never =
          first_of_none_passes passes before jobs
          (list_any_not passes jobs (all_from_members (λ j. passes j ≡ false) jobs
          (λ j i. false_from_ne_true (passes j) (λ t. never j i (placed j t)))))

      -- there is no place from the front on
      none_first : entry_from (place_cmp C (front C g)) order.entries ≡ None → first_of passes before jobs ≡ None
      none_first n = none_passes (λ j i p.
          let below = found_below (place_total o) (front C g) p.place order.entries n (held j i p.place p.is) in
          let from = front_first p.place p.group in
          absurd (cc))

      -- the first place from the front on is in another group
      none_of_group : (e : ShelfPlace G × Unit {0}) → entry_from (place_cmp C (front C g)) order.entries ≡ Some e
          → is_eq (C g e.0.group) ≡ false → first_of passes before jobs ≡ None
      none_of_group e n apart = none_passes (λ j i p.
          let above = from_least (place_total o) (front C g) p.place e order.entries s n (held j i p.place p.is)
          (front_first p.place p.group) in
          let same = between e.0 p.place (from_not_below (place_total o) (front C g) e order.entries n) above p.group in
          absurd (cc))

      -- the job of a place in the order
      record PriAndState (q : ShelfPlace G) : Type 0 where
        job : Job
        found : job_with q.id jobs ≡ Some job
        place : ShelfPlace G
        is : place_of job ≡ Some place
        ties : place_cmp C q place ≡ Equal

      pri_and_state_at : (q : ShelfPlace G) (j : Job) (p : Option (ShelfPlace G)) → job_with q.id jobs ≡ Some j → place_of j ≡ p
          → is_place C q p ≡ true → PriAndState q
      pri_and_state_at q j None found e t = absurd cc
      pri_and_state_at q j (Some p) found e t = record { job = j; found = found; place = p; is = e; ties = equal_from (place_cmp C q p) t }

      pri_and_state : (q : ShelfPlace G) → is_some (holds_place C q order.entries) ≡ true → PriAndState q
      pri_and_state q t = search (rules, pri_and_state_at)

      tied_group : (k q : ShelfPlace G) → is_eq (C g k.group) ≡ true → is_eq (C g q.group) ≡ true → C k.group q.group ≡ Equal
      tied_group k q a b = grind (arith, o.congr g k.group q.group, equal_from)

      same_job : (x y : Job) → job_with x.id jobs ≡ Some x → Contains jobs y → before x y ≡ false → before y x ≡ false → y ≡ x
      same_job x y found i a b = grind (arith, nat_tests, found_by_id)

      one_of_group : (e : ShelfPlace G × Unit {0}) → entry_from (place_cmp C (front C g)) order.entries ≡ Some e
          → is_eq (C g e.0.group) ≡ true → option_map (ranked number) (first_of passes before jobs) ≡ Some (rank_at e)
      one_of_group e n t =
          let st = pri_and_state e.0 (from_found (place_total o) (front C g) e order.entries n) in
          let x = st.job in
          let id : x.id ≡ e.0.id = found_id e.0.id jobs x st.found in
          let rest = ordering_then (nat_cmp e.0.at st.place.at) (nat_cmp e.0.id st.place.id) in
          let group : C e.0.group st.place.group ≡ Equal = then_equal_first (C e.0.group st.place.group) rest st.ties in
          let within : is_eq (C g st.place.group) ≡ true =
          ap is_eq (o.congr g e.0.group st.place.group (equal_from (C g e.0.group) t) ∙ group) in
          let pass : passes x ≡ true = grouped x ∙ ap (in_group C g) st.is ∙ within in
          let at : e.0.at ≡ number x =
          numbers_tie e.0.at st.place.at (then_equal_first (nat_cmp e.0.at st.place.at) (nat_cmp e.0.id st.place.id)
          (then_equal_second (C e.0.group st.place.group) rest st.ties))
          ∙ numbered x st.place st.is pass in
          let found : job_with x.id jobs ≡ Some x = subst (λ m. job_with m jobs ≡ Some x) (sym id) st.found in
          let least : (y : Job) → Contains jobs y → passes y ≡ true → before y x ≡ false = λ y i u.
          let p = placed y u in
          let above = from_least (place_total o) (front C g) p.place e order.entries s n (held y i p.place p.is)
          (front_first p.place p.group) in
          let pairs = pair_not_after e.0.at e.0.id p.place.at p.place.id
          (then_tied (C e.0.group p.place.group) (ordering_then (nat_cmp e.0.at p.place.at) (nat_cmp e.0.id p.place.id))
          (tied_group e.0 p.place t p.group) above) in
          same_pairs p.place.at p.place.id e.0.at e.0.id (number y) y.id (number x) x.id p.at p.id at (sym id) pairs in
          let pair : ranked number x ≡ rank_at e = cc in
          ap (option_map (ranked number)) (first_of_is passes (pair_order number (λ j. j.id)) jobs x
          ((found_passes (λ j. j.id == e.0.id) jobs x st.found).1) pass least (λ y i a b. same_job x y found i a b))
          ∙ ap Some pair

      -- the number and the id at the first place of the group are those of the first job that
      -- passes
      pub rank_is : first_rank C g order.entries ≡ option_map (ranked number)
          (first_of passes (λ a b. is_pair_before (number a) a.id (number b) b.id) jobs)
      rank_is = grind (arith, none_first, one_of_group, none_of_group)
