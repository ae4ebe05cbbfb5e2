-- Parts of a step in which nothing happens. Before the next due moment a tick changes nothing but the moment.
use Rattle.std.proofs.Common.{List, None, Option, ap, arith, false, inl, inr, refl, true, ℕ, [], ◌&&◌, ◌++◌, ◌<◌, ◌||◌, ◌∙◌, ◌∷◌, ◌≡◌}
use Rattle.std.proofs.{Math.Nat.min-eq_left, lemmas.Bool.{and_from, cases_Bool, eq-eqb, le-leb, leb-true, or_parts}}
use Rattle.std.proofs.lemmas.Grind.{common_steps}
use Rattle.std.specs.{List.{AllByRecursion as All, Contains, list_all}, Prelude.{IsTrue, flat_map, nat_lt, ◌==◌}}
use Rattle.bq_job.proofs.{ChoiceLemmas.{first_of_none, first_of_none_passes}, ListLemmas.{all_at, all_from_members, all_of_flat_map}}
use Rattle.bq_job.proofs.ListLemmas.{all_parts, all_pass, all_weaker, count_all_not, filter_all, list_any_not, list_any_with}
use Rattle.bq_job.proofs.{ListLemmas.{map_all_same, none_pass}, RecordLemmas.booked_of_lawful}
use Rattle.bq_job.specs.beside.{IsLawful, dues, dues_of_pause, dues_of_state, dues_of_wait, earlier, earliest, is_before, next_due}
use Rattle.bq_job.specs.machine.{Chain, GivenAnswer, IsStep, Outcome, SeatRecord, Serves, acted, addressed, after_timers}
use Rattle.bq_job.specs.machine.{at_moment, ends_waiting, forgetting, is_deadline_soon, is_timed_out}
use Rattle.bq_job.specs.machine.{is_tube, is_until_over, is_wait_before, is_waiting, is_waiting_at, next_end, next_job}
use Rattle.bq_job.specs.machine.Machine.{Machine}
use Rattle.bq_job.specs.declared.step.Step.TheVariants as steps

-- If no record is of a tube that does not exist, nothing is forgotten.
pub forgets_nothing : (m : Machine) → list_all (λ t. is_tube t.name m) m.tubes ≡ true → forgetting m ≡ m
forgets_nothing m h = grind (arith, common_steps, filter_all, all_pass)

none_in_chain : (Turns : Machine → GivenAnswer → Machine → Type 0) (first : Machine) (given : List GivenAnswer) (last : Machine)
    → ((g : GivenAnswer) (n : Machine) → Turns first g n → ⊥) → Chain Turns first given last → (given ≡ []) × (last ≡ first)
none_in_chain Turns first [] last none chain = (refl, chain)
none_in_chain Turns first (g ∷ given) last none chain = absurd (none g chain.0 chain.1)

-- If no job is next and no wait ends next, no client is served.
pub serves_nobody : (first : Machine) (handed ended : List GivenAnswer) (last : Machine) → next_job first ≡ None → next_end first ≡ None
    → forgetting first ≡ first → Serves first handed ended last → (handed ≡ []) × (ended ≡ []) × (last ≡ first)
serves_nobody first handed ended last jobs ends kept s = grind (arith, common_steps, none_in_chain)

-- what is before the earliest is before all
before_both : (moment due : ℕ) (o : Option ℕ) → nat_lt moment (earlier due o) ≡ true → (moment < due) × (is_before moment o ≡ true)
before_both moment due o h = grind (arith, common_steps, cases_Bool, leb-true, le-leb)

abbrev IsLater : ℕ → ℕ → Type 0
IsLater moment due = moment < due

before_all : (moment : ℕ) (dues : List ℕ) → is_before moment (earliest dues) ≡ true → All (IsLater moment) dues
before_all moment [] h = tt
before_all moment (due ∷ others) h = let both = before_both moment due (earliest others) h in (both.0, before_all moment others both.1)

module _ (m : Machine) (at : ℕ) (h : IsLawful m) (early : IsTrue (is_before (at_moment at m).moment (next_due m))) where
  abbrev now : ℕ
  now = (at_moment at m).moment

  abbrev of_jobs : List ℕ
  of_jobs = flat_map (λ j. dues_of_state m j.state) m.jobs

  abbrev of_tubes : List ℕ
  of_tubes = flat_map (λ t. dues_of_pause t.pause) m.tubes

  abbrev of_seats : List ℕ
  of_seats = flat_map (λ s. dues_of_wait s.wait) m.seats

  later : All (λ j. All (IsLater now) (dues_of_state m j.state)) m.jobs × All (λ t. All (IsLater now) (dues_of_pause t.pause)) m.tubes
      × All (λ s. All (IsLater now) (dues_of_wait s.wait)) m.seats
  later =
      let all = all_parts (IsLater now) (of_jobs ++ of_tubes) of_seats (before_all now (dues m) early) in
      let some = all_parts (IsLater now) of_jobs of_tubes all.0 in
      (all_of_flat_map _ _ m.jobs some.0, all_of_flat_map _ _ m.tubes some.1, all_of_flat_map _ _ m.seats all.1)

  fired_same : after_timers (at_moment at m) ≡ at_moment at m
  fired_same = grind (arith, common_steps, map_all_same, all_weaker, later, count_all_not, min-eq_left, booked_of_lawful)

  forgotten_same : forgetting (at_moment at m) ≡ at_moment at m
  forgotten_same = forgets_nothing (at_moment at m) h.tubes

  -- no wait ends
  wait_stays : (s : SeatRecord) → Contains m.seats s → ends_waiting (at_moment at m) s ≡ false
  wait_stays s there =
      elim (cases_Bool (is_waiting s)) [
        | inl w ↦
            let waits : is_waiting_at s.number m ≡ true =
            list_any_with (λ t. t.number == s.number && is_waiting t) m.seats s there
            (and_from (s.number == s.number) (is_waiting s) (eq-eqb s.number s.number refl) w) in
            let before : ends_waiting m s ≡ false =
            all_at (λ t. ends_waiting m t ≡ false) m.seats s
            (none_pass (ends_waiting m) m.seats (first_of_none (ends_waiting m) is_wait_before m.seats h.wait_ends)) there in
            let kept : (is_deadline_soon m s || is_timed_out m s) ≡ false = rw w at before in
            let untimed : is_timed_out m s ≡ false = (or_parts (is_deadline_soon m s) (is_timed_out m s) kept).1 in
            let stays : s.ended ≡ false = (or_parts (is_until_over m.moment s.wait) s.ended untimed).1 in
            let soon : is_deadline_soon (at_moment at m) s ≡ false = grind (arith, common_steps, list_any_not, all_weaker, later.0) in
            let over : is_until_over now s.wait ≡ false =
            let later = all_at (λ t. All (IsLater now) (dues_of_wait t.wait)) m.seats s later.2 there in grind (arith, common_steps) in
            rw (w, soon, over, stays) refl
        | inr w ↦ rw w refl
      ]

  no_wait_ends : next_end (at_moment at m) ≡ None
  no_wait_ends = search (first_of_none_passes, list_any_not, all_from_members, wait_stays)

  pub tick_is_idle : (last : Machine) (seat : ℕ) (outcome : Outcome) (given : List GivenAnswer)
      → IsStep m at seat steps.Tick outcome given last → (given ≡ []) × (last ≡ at_moment at m)
  tick_is_idle last seat outcome given s =
      let begin : forgetting (after_timers (at_moment at m)) ≡ at_moment at m = ap forgetting fired_same ∙ forgotten_same in
      let one = serves_nobody (at_moment at m) s.handed s.ended s.before h.dispatched no_wait_ends forgotten_same (rw begin at s.serves) in
      let act : ((acted s.memory s.before seat steps.Tick).machine ≡ s.before)
      × (addressed seat (acted s.memory s.before seat steps.Tick).answer ≡ []) = grind (arith, common_steps, s.possible) in
      let after : s.after ≡ at_moment at m = s.acts ∙ ap forgetting (act.0 ∙ one.2) ∙ forgotten_same in
      let two = serves_nobody (at_moment at m) s.handed_then s.ended_then last h.dispatched no_wait_ends forgotten_same
      (rw after at s.serves_then) in
      (s.answers_are ∙ rw (one.0, one.1, act.1, two.0, two.1) refl, two.2)
