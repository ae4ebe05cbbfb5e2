-- The ends of pauses: lookups after a change, and the first end.
use Rattle.std.proofs.Common.{Bool, List, None, Option, Some, [], arith, cond, false, map, refl, sym, true, ℕ, ◌&&◌, ◌||◌, ◌∙◌, ◌∷◌, ◌≡◌}
use Rattle.std.{proofs.{Common.◌≤◌, lemmas.{Cmp.nat_list_eq_equiv, Grind.common_steps}}, specs.List.AllByRecursion as All}
use Rattle.std.specs.{Option.option_map, Ordering.is_gt, Prelude.{fold, nat_le, ◌==◌}}
use Rattle.bq_index.specs.{Catalog.CatalogSeen, Order.InOrder}
use Rattle.bq_job.{proofs.ListLemmas.{all_from_members, list_any_with}, specs.{beside.{dues_of_pause, earliest}, machine.TubeRecord}}
use Rattle.bq_job.specs.reading.TubeName.{is_same_name}
use Rattle.bq_jobs.{proofs.{Choice.{from_least, lookup_inserted, lookup_removed}, Firsts.name_ties}, specs.JobsSeen.JobsSeen}
use Rattle.bq_jobs.specs.Table.{Tabled}
use Rattle.bq_state.{proofs.TubeLemmas.same_itself, specs.{Dues.{first_pause_end, is_end_over, with_tube_due}, PauseEnds.{AreEnds, Ends}}}
use Rattle.bq_state.specs.PauseEnds.{end_cmp, end_total, first_end, found_end, has_end, if_over, is_end_in, number_at, with_end}
use Rattle.bq_state.specs.{PauseEnds.without_end, Store.{StoreSeen, store_seen}, TubesSeen.{EntrySeen, record_at, records}}
use Rattle.bq_state.specs.declared.tubes.pauses.PauseEnd.{PauseEnd}

-- lookups of an end after one was removed or added
pub has_left : (q e : PauseEnd) (ends : Ends) → InOrder end_cmp ends
    → has_end q (without_end (Some e) ends) ≡ cond (is_same_name e.number q.number && e.until == q.until) false (has_end q ends)
has_left q e ends s = grind (arith, common_steps, name_ties, lookup_removed end_total q e ends s)

pub has_entered : (q e : PauseEnd) (ends : Ends) → found_end e ends ≡ None
    → has_end q (with_end (Some e) ends) ≡ ((is_same_name e.number q.number && e.until == q.until) || has_end q ends)
has_entered q e ends absent = grind (arith, common_steps, name_ties, nat_list_eq_equiv.symm, lookup_inserted end_total q e tt ends absent)

-- This moment, if there is one, is not before the first end.
abbrev IsFrom : Option ℕ → Option PauseEnd → Type 0
IsFrom None first = Unit {0}
IsFrom (Some m) None = ⊥
IsFrom (Some m) (Some e) = e.until ≤ m

not_lower : (e : PauseEnd) → is_gt (end_cmp (record { until = 0; number = [] }) e) ≡ false
not_lower e = grind arith

not_after : (a b : PauseEnd) → is_gt (end_cmp a b) ≡ false → a.until ≤ b.until
not_after a b h = grind (arith, common_steps)

first_least : (ends : Ends) → InOrder end_cmp ends → (q : PauseEnd) → has_end q ends ≡ true → IsFrom (Some q.until) (first_end ends)
first_least [] s q h = absurd cc
first_least (x ∷ ends) s q h =
    not_after x.0 q (from_least end_total (record { until = 0; number = [] }) q x (x ∷ ends) s (rw (not_lower x.0) refl) h (not_lower q))

-- If no pause of these tubes ends before the first end, and one ends with it, its moment is found.
abbrev end_due : TubeRecord → Option ℕ
end_due t = earliest (dues_of_pause t.pause)

module _ (numbers : List (List ℕ × ℕ)) where
  abbrev is_met : Option PauseEnd → Option ℕ → List TubeRecord → Bool
  is_met None best ts = true
  is_met (Some e) None ts = is_end_in numbers e ts
  is_met (Some e) (Some m) ts = m == e.until || is_end_in numbers e ts

  least_found : (first : Option PauseEnd) (best : Option ℕ) (ts : List TubeRecord) → IsFrom best first
      → All (λ t. IsFrom (end_due t) first) ts → is_met first best ts ≡ true → fold with_tube_due best ts ≡ option_map (λ e. e.until) first
  least_found first best [] h all hit = grind (arith, common_steps)
  least_found first best (t ∷ ts) h all hit = grind (arith, common_steps, least_found first (with_tube_due best t) ts)

  all_from : (first : Option PauseEnd) (ts : List TubeRecord)
      → ((e : PauseEnd) → is_end_in numbers e ts ≡ true → IsFrom (Some e.until) first) → All (λ t. IsFrom (end_due t) first) ts
  all_from first ts h = all_from_members _ ts (λ t here.
      elim t.pause as (λ p. t.pause ≡ p → IsFrom (earliest (dues_of_pause p)) first) [
        | None ↦ λ e. tt
        | Some p ↦ λ e. h (record { until = p.until; number = number_at t.name numbers })
            (list_any_with _ ts t here (grind (arith, common_steps, same_itself)))
      ] refl)

first_there : (x : PauseEnd × Unit {0}) (ends : Ends) → has_end x.0 (x ∷ ends) ≡ true
first_there x ends = grind (arith, common_steps, name_ties x.0.number x.0.number, same_itself)

-- The first due end is one of the ends, and is due.
pub one_over : (moment : ℕ) (e : PauseEnd) (ends : Ends) → Some e ≡ if_over moment (first_end ends)
    → (has_end e ends ≡ true) × (nat_le e.until moment ≡ true)
one_over moment e ends h = grind (arith, first_there)

first_met : (numbers : List (List ℕ × ℕ)) (ends : Ends) (ts : List TubeRecord)
    → ((e : PauseEnd) → has_end e ends ≡ is_end_in numbers e ts) → is_met numbers (first_end ends) None ts ≡ true
first_met numbers [] ts known = refl
first_met numbers (x ∷ ends) ts known = sym (known x.0) ∙ first_there x ends

module _ (kept : Tabled EntrySeen) (ends : CatalogSeen PauseEnd (Unit {0})) (h : AreEnds kept ends) (s : InOrder end_cmp ends.entries) where
  -- The first pause ends at the first of the ends.
  pub first_is : option_map (λ e. e.until) (first_end ends.entries) ≡ first_pause_end (map record_at kept.entries)
  first_is =
      let all = all_from kept.tubes.numbers (first_end ends.entries) (map record_at kept.entries) (λ e there.
      first_least ends.entries s e (h.known e ∙ there)) in
      grind (arith, least_found, first_met kept.tubes.numbers ends.entries (map record_at kept.entries) h.known)

  -- The first end, if it is due, is that of a pause.
  pub over_in : (moment : ℕ) (e : PauseEnd) → Some e ≡ if_over moment (first_end ends.entries)
      → is_end_in kept.tubes.numbers e (map record_at kept.entries) ≡ true
  over_in moment e come = sym (h.known e) ∙ (one_over moment e ends.entries come).0

  -- If none is due, no pause has ended.
  pub none_over_yet : (moment : ℕ) → None ≡ if_over moment (first_end ends.entries)
      → is_end_over moment (first_pause_end (map record_at kept.entries)) ≡ false
  none_over_yet moment none = grind (arith, common_steps, first_is)

  -- The first of the ends is the first end of a pause, as contracts see the tubes.
  pub first_seen : (rows : JobsSeen) (k : StoreSeen) (r : Option ℕ) → r ≡ option_map (λ e. e.until) (first_end ends.entries)
      → store_seen rows kept ≡ k → r ≡ first_pause_end (records k.tubes)
  first_seen rows k r is seen = grind (arith, first_is)
