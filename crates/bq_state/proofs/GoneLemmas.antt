-- Entries of tubes that no longer exist are dropped from the catalog; the others are counted and
-- listed.
use Rattle.std.proofs.Common.{Bool, List, None, Option, Some, [], arith, false, inl, inr, length, map, refl, true, ℕ, ◌+◌, ◌||◌, ◌∷◌, ◌≡◌}
use Rattle.std.proofs.Common.{◌≤◌}
use Rattle.std.proofs.{Math.Bool.or-false, lemmas.{Bool.cases_Bool, Cmp.tied_itself, Grind.common_steps}}
use Rattle.std.specs.{Cmp.Lexicographic.{nat_list_cmp_total, slice_cmp}, List.{AllByRecursion as All, Sorted.IsStrictlySortedBy, list_any}}
use Rattle.std.specs.{Map.{keys_of, lookup, remove_entry}, Option.option_map, Ordering.nat_cmp, Prelude.{filter, find, fold}}
use Rattle.std.specs.declared.cmp.Ordering.TheVariants.{Less}
use Rattle.bq_index.specs.{Order.InOrder, Walk.seen_by}
use Rattle.bq_job.{proofs.ListLemmas.{all_at, all_before_map, all_weaker, found_passes}, specs.{declared.job.Job.Job, machine.SeatRecord}}
use Rattle.bq_job.specs.{machine.greatest, reading.TubeName.is_same_name}
use Rattle.bq_state.proofs.{CountedLemmas.has_jobs_in, CrowdLemmas.has_seats_of, MaybeGoneLemmas.others_alive, NamedLemmas.ties}
use Rattle.bq_state.{proofs.TubeLemmas.same_name, specs.Counting.{AreCounted, AreTallied, IsCounted, existing, forgotten}}
use Rattle.bq_state.specs.{MaybeGoneTubes.AreAlive, TubeEntries.{AreInOrder, is_tube_of, names_alive}, TubesSeen.{EntrySeen, Named}}
use Rattle.bq_state.specs.TubesSeen.{is_alive_at, is_from, is_gone_by, is_gone_from, is_named_at, record_at, with_alive, without_gone}
use Rattle.bq_state.specs.declared.{known.maybe_gone.MaybeGone.{MaybeGone, TheVariants.{Any, Nothing, Tube}}, tubes.walks.HowMany.HowMany}

-- Whether a tube exists, with its name tested last.
pub name_last : (jobs seated first : Bool) → ((jobs || seated) || first) ≡ (first || jobs || seated)
name_last jobs seated first = grind (arith, common_steps)

-- The tube of an entry that is dropped has no job.
module _ (jobs : List Job) where
  abbrev IsIdle : Named → Type 0
  IsIdle e = is_alive_at e ≡ false → list_any (λ j. is_same_name e.0 j.tube) jobs ≡ false

  idle : (es : List Named) → AreTallied jobs es → All IsIdle es
  idle es all = all_weaker _ _ es (λ e tallied gone. grind (arith, common_steps, has_jobs_in e.0 jobs)) all

  pub gone_has_none : (name : List ℕ) (es : List Named) → AreTallied jobs es → true ≡ is_gone_by name (lookup (is_named_at name) es)
      → list_any (λ j. is_same_name name j.tube) jobs ≡ false
  gone_has_none name [] h gone = absurd cc
  gone_has_none name (x ∷ es) h gone = let all = idle (x ∷ es) h in
      grind (arith, common_steps, cases_Bool, ties name x.0, same_name name x.0, all.0, gone_has_none name es h.1)

  pub found_has_none : (from : Option (List ℕ)) (name : List ℕ) (es : List Named) → AreTallied jobs es
      → Some name ≡ option_map (λ (e : Named). e.0) (find (is_gone_from from) es) → list_any (λ j. is_same_name name j.tube) jobs ≡ false
  found_has_none from name [] h found = absurd (let g : Some name ≡ None = found in cc)
  found_has_none from name (x ∷ es) h found = let all = idle (x ∷ es) h in
      grind (arith, common_steps, cases_Bool (is_gone_from from x), all.0, found_has_none from name es h.1)

module _ (jobs : List Job) (seats : List SeatRecord) where
  -- By its counts a tube exists if and only if it exists by the jobs and seats.
  alive_is : (e : Named) → IsCounted jobs seats e → is_alive_at e ≡ is_tube_of jobs seats e.0
  alive_is e h = grind (arith, has_jobs_in e.0 jobs, has_seats_of seats e.0)

  alive_left : (es : List Named) → AreCounted jobs seats es → filter is_alive_at es ≡ existing jobs seats es
  alive_left [] h = refl
  alive_left (e ∷ es) h = grind (arith, alive_is e, alive_left es)

  -- The tubes that exist are listed.
  pub listed_names : (es : List Named) → AreCounted jobs seats es
      → keys_of (filter is_alive_at es) ≡ names_alive jobs seats (map record_at es)
  listed_names [] h = refl
  listed_names (e ∷ es) h = grind (arith, alive_is e, listed_names es)

  -- If no tube may have gone, all entries are kept.
  all_existing : (es : List Named) → AreAlive Nothing jobs seats (map record_at es) → es ≡ existing jobs seats es
  all_existing [] all = refl
  all_existing (e ∷ es) all = grind (arith, common_steps, or-false, all_existing es)

  -- The entry with one name is dropped if its tube no longer exists.
  one_left : (name : List ℕ) (es : List Named) → AreInOrder (map record_at es) → AreAlive (Tube name) jobs seats (map record_at es)
      → AreCounted jobs seats es → without_gone name es ≡ existing jobs seats es
  one_left name [] order all h = refl
  one_left name (e ∷ es) order all h = elim (cases_Bool (is_same_name name e.0)) [
    | inl same ↦
        let others = all_existing es (others_alive name jobs seats _ (rw (same_name name e.0 same) order.0) all.1) in
        grind (arith, common_steps, ties name e.0, same_name name e.0 same, others, alive_is e)
    | inr other ↦ grind (arith, common_steps, or-false, alive_is e, ties, one_left name es order.1 all.1 h.1)
  ]

  -- So the tubes that exist are left.
  pub forgotten_is : (maybe : MaybeGone) (es : List Named) → AreInOrder (map record_at es) → AreAlive maybe jobs seats (map record_at es)
      → AreCounted jobs seats es → forgotten maybe es ≡ existing jobs seats es
  forgotten_is Nothing es order all h = all_existing es all
  forgotten_is (Tube gone) es order all h = one_left gone es order all h
  forgotten_is Any es order all h = alive_left es h

-- They are counted.
pub counted_alive : (es : List Named) (n : ℕ) → n + length es ≤ greatest
    → (fold (seen_by (λ (s : HowMany) (name : List ℕ) (t : EntrySeen). record { count = with_alive s.count name t }))
    (record { count = n }) es).count ≡ n + length (filter is_alive_at es)
counted_alive [] n few = omega arith
counted_alive (e ∷ es) n few = grind (arith, counted_alive es)

-- All such entries are dropped one after another.
abbrev pub AllLeftBefore : Option (List ℕ) → List Named → Type 0
AllLeftBefore from es = All (λ e. is_from from e ≡ false → is_alive_at e ≡ true) es

-- If no further entry is found, none is left.
pub none_gone : (from : Option (List ℕ)) (es : List Named) → option_map (λ (e : Named). e.0) (find (is_gone_from from) es) ≡ None
    → AllLeftBefore from es → filter (is_alive_at) es ≡ es
none_gone from [] h all = refl
none_gone from (x ∷ es) h all = grind (arith, common_steps, none_gone from es)

-- the result of one removal
pub record JobRemoval (name : List ℕ) (es : List Named) : Type 0 where
  pub before : AllLeftBefore (Some name) (remove_entry (is_named_at name) es)
  pub left : filter (is_alive_at) (remove_entry (is_named_at name) es) ≡ filter (is_alive_at) es
  pub fewer : length (remove_entry (is_named_at name) es) + 1 ≡ length es

-- the entries after a name
module _ (k : List ℕ) where
  behind : (es : List Named) → All (λ y. slice_cmp nat_cmp k y ≡ Less) (keys_of es) → AllLeftBefore (Some k) es
  behind [] all = tt
  behind (y ∷ es) all = grind (arith, behind es)

  found_behind : (q : Named → Bool) (name : List ℕ) (es : List Named) → All (λ y. slice_cmp nat_cmp k y ≡ Less) (keys_of es)
      → option_map (λ (e : Named). e.0) (find q es) ≡ Some name → slice_cmp nat_cmp k name ≡ Less
  found_behind q name es all h = grind (arith, common_steps, all_at, all_before_map, found_passes)

pub name_removed : (from : Option (List ℕ)) (name : List ℕ) (es : List Named) → InOrder (slice_cmp nat_cmp) es
    → option_map (λ (e : Named). e.0) (find (is_gone_from from) es) ≡ Some name → AllLeftBefore from es → JobRemoval name es
unfolding IsStrictlySortedBy
name_removed from name [] s h all = absurd (let g : None ≡ Some name = h in cc)
name_removed from name (x ∷ es) s h all = grind (
  arith,
  common_steps,
  cases_Bool (is_gone_from from x),
  tied_itself nat_list_cmp_total x.0,
  behind x.0 es s.0,
  nat_list_cmp_total.antisymm name x.0,
  found_behind x.0 (is_gone_from from) name es s.0,
  name_removed from name es s.1,
)
