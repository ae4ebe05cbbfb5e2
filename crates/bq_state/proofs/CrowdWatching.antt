-- Counts of the clients at tubes after a client watches one more tube, or one fewer.
use Rattle.std.proofs.Common.{Bool, List, Some, [], ap, arith, false, filter, if◌then◌else◌, length, map, not, refl, set, slice_get, true}
use Rattle.std.proofs.{Common.{ℕ, ◌&&◌, ◌++◌, ◌∙◌, ◌∷◌, ◌≡◌, ◌≤◌}, Math.Bool.or-false, lemmas.{Cmp.nat_list_eq_equiv, Grind.common_steps}}
use Rattle.std.{proofs.lemmas.{List.Folds.list_any-append, Map.Views.any-filter_same}, specs.List.{AllByRecursion as All, list_any}}
use Rattle.bq_job.proofs.{ListLemmas.{all_of_map, all_weaker}, WatchedLemmas.{none_twice_behind, none_twice_filter}}
use Rattle.bq_job.specs.{declared.job.Job.Job, machine.{SeatRecord, greatest, is_waiting, watches, watching}, reading.TubeName.is_same_name}
use Rattle.bq_state.proofs.{CrowdLemmas.{crowd_changed, roles_at}, PartsLemmas.{all_read, all_set, changed_there, seat_read}}
use Rattle.bq_state.{proofs.TubeLemmas.same_name, specs.{Counting.AreCounted, Crowds.{IsSeated, crowd_of, crowd_with, crowd_without}}}
use Rattle.bq_state.specs.{Crowds.{recounted, roles_of_watcher, roles_of_watching}, SeatChanges.AreNumbered, TubesSeen.Named}
use Rattle.bq_state.specs.{TubesSeen.{changed_named, entry_recounted}, declared.tubes.entry.AddOrRemove.{AddOrRemove, TheVariants.Add}}
use Rattle.bq_state.specs.declared.tubes.entry.{AddOrRemove.TheVariants.Remove, Crowd.Crowd, Roles.Roles}

module _ (name : List ℕ) (i : ℕ) (s : SeatRecord) (jobs : List Job) (seats : List SeatRecord) (es : List Named)
    (found : slice_get seats i ≡ Some s) (h : AreNumbered seats) (fits : length seats ≤ greatest) where
  -- A client watches these tubes, which differ from those before in this name only.
  relisted : (names : List (List ℕ)) (how : AddOrRemove) (roles : Roles)
      → ((other : List ℕ) → is_same_name name other ≡ false → list_any (is_same_name other) names ≡ watches other s)
      → ((c : Crowd) → recounted how roles c ≡ crowd_with (roles_of_watching name (watching names s))
      (crowd_without (roles_of_watching name s) c))
      → AreCounted jobs seats es → AreCounted jobs (set seats i (watching names s))
      (map (changed_named name (entry_recounted how roles)) es)
  relisted names how roles apart here counts = all_of_map _ _ es (all_weaker _ _ es (λ e c.
      let is = there e.0 (is_same_name name e.0) refl in grind arith) counts)
    where
      moved : (b : Bool) (other : List ℕ) → (b ≡ false → list_any (is_same_name other) names ≡ watches other s)
          → (let what : Roles = record { using = false; watching = b; waiting = b } in
          crowd_with (roles_at what (watching names s) other) (crowd_without (roles_at what s other) (crowd_of seats other)))
          ≡ crowd_of (set seats i (watching names s)) other
      moved b other same =
          crowd_changed i (watching names) (λ t. refl) (record { using = false; watching = b; waiting = b }) s seats other h fits
          (seat_read seats i s h found) (λ e. refl) (λ e. ap (λ w. s.connected && w) (same e)) (λ e. ap (λ w. is_waiting s && w) (same e))
          ∙ ap (λ ss. crowd_of ss other) (changed_there seats i s (watching names) h found)

      there : (other : List ℕ) (b : Bool) → is_same_name name other ≡ b
          → (if b then recounted how roles (crowd_of seats other) else crowd_of seats other)
          ≡ crowd_of (set seats i (watching names s)) other
      there other true e = rw (← same_name name other e) (here (crowd_of seats name) ∙ moved true name (λ f. absurd cc))
      there other false e = moved false other (λ f. apart other e)

  -- A client watches one more tube,
  pub counted_watching : watches name s ≡ false → AreCounted jobs seats es → AreCounted jobs
      (set seats i (watching (s.watched ++ name ∷ []) s)) (map (changed_named name (entry_recounted Add (roles_of_watcher s))) es)
  counted_watching none = relisted (s.watched ++ name ∷ []) Add (roles_of_watcher s)
      (λ other apart. grind (arith, common_steps, list_any-append, nat_list_eq_equiv.symm, or-false))
      (λ c. grind (arith, common_steps, list_any-append, nat_list_eq_equiv.refl))

  -- the names that are left
  ignored : (other : List ℕ) (b : Bool) → is_same_name name other ≡ b
      → list_any (is_same_name other) (filter (λ n. not (is_same_name name n)) s.watched) ≡ (not b && watches other s)
  ignored other b e = grind (arith, any-filter_same, same_name)

  -- or one fewer.
  pub counted_ignoring : AreCounted jobs seats es → AreCounted jobs
      (set seats i (watching (filter (λ other. not (is_same_name name other)) s.watched) s))
      (map (changed_named name (entry_recounted Remove (roles_of_watching name s))) es)
  counted_ignoring = relisted (filter (λ other. not (is_same_name name other)) s.watched) Remove (roles_of_watching name s)
      (λ other apart. ignored other false apart) (λ c. grind (arith, common_steps, ignored name true (nat_list_eq_equiv.refl name)))

-- A client that watches more tubes, or fewer, watches none twice.
module _ (name : List ℕ) (i : ℕ) (s : SeatRecord) (seats : List SeatRecord) (found : slice_get seats i ≡ Some s)
    (seated : All IsSeated seats) where
  pub seated_watching : watches name s ≡ false → All IsSeated (set seats i (watching (s.watched ++ name ∷ []) s))
  seated_watching none = grind (arith, all_read, all_set, none_twice_behind)

  pub seated_ignoring : (p : List ℕ → Bool) → All IsSeated (set seats i (watching (filter p s.watched) s))
  seated_ignoring p = grind (arith, all_read, all_set, none_twice_filter)
