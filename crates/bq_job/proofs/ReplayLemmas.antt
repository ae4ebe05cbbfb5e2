-- Replays: how one begins and goes on, and that a journal has at most one.
use Rattle.std.proofs.Common.{◌++◌, ◌∙◌, ◌∷◌, ◌≡◌, List, [], ap, arith, false, flat_map, map, refl, sym}
use Rattle.std.proofs.lemmas.Grind.{common_steps}
use Rattle.std.specs.List.{AllByRecursion as All}
use Rattle.bq_job.specs.{beside.{entry_of, outcome_of, Replay.Replay}, declared.journal.Entry.Entry as JournalEntry}
use Rattle.bq_job.specs.{machine.{GivenAnswer, IsStep, Outcome, Settings, new_machine, Machine.Machine}}
use Rattle.bq_job.specs.promise.{GoesBy, IsTransition, Transition}
use Rattle.bq_job.proofs.{ListLemmas.{all_always, all_before_map, all_of_map, heads}, OutcomeLemmas.one_result, RunLemmas.taken_as}

pub replay_none : (settings : Settings) → Replay settings [] [] (new_machine settings)
replay_none settings = record { taken = []; goes = refl; history_is = refl; outcomes_are = refl; given_is = refl }

-- the steps of a run, and one more step
goes_more : (first next last : Machine) (taken : List Transition) (t : Transition) → GoesBy first taken next → t.first ≡ next
    → IsTransition t → last ≡ t.last → GoesBy first (taken ++ t ∷ []) last
goes_more first next last [] t goes starts is ends = (starts ∙ goes, is, ends)
goes_more first next last (u ∷ taken) t goes starts is ends = (goes.0, goes.1, goes_more u.last next last taken t goes.2 starts is ends)

pub replay_more : (settings : Settings) (journal : List JournalEntry) (entry : JournalEntry) (given more : List GivenAnswer)
    (next last : Machine)
    → Replay settings journal given next → IsStep next entry.moment entry.seat entry.step (outcome_of entry) more last
    → Replay settings (journal ++ entry ∷ []) (given ++ more) last
replay_more settings journal entry given more next last r step =
    let t : Transition = taken_as next (entry_of entry) (outcome_of entry) more last step in
    let goes = goes_more (new_machine settings) next last r.taken t r.goes refl (record { step = step; parts_are = refl }) refl in
    grind (arith, common_steps)

-- Two runs from one model with the same steps and outcomes, in which each body was shared, give the
-- same answers and end in the same model.
one_run : (first last other : Machine) (taken others : List Transition) → GoesBy first taken last → GoesBy first others other
    → map (λ t. t.entry) taken ≡ map (λ t. t.entry) others → map (λ t. t.outcome) taken ≡ map (λ t. t.outcome) others
    → All (λ t. t.outcome.unshared ≡ false) taken
    → (flat_map (λ t. t.given) taken ≡ flat_map (λ t. t.given) others) × (last ≡ other)
one_run first last other [] [] g g' h o u = (refl, g ∙ sym g')
one_run first last other [] (v ∷ others) g g' h o u = absurd cc
one_run first last other (t ∷ taken) [] g g' h o u = absurd cc
one_run first last other (t ∷ taken) (v ∷ others) g g' h o u =
    let e = heads t.entry v.entry (map (λ t. t.entry) taken) (map (λ t. t.entry) others) h in
    let p = heads t.outcome v.outcome (map (λ t. t.outcome) taken) (map (λ t. t.outcome) others) o in
    let step : IsStep first t.entry.moment t.entry.seat t.entry.what t.outcome t.given t.last = grind (arith, common_steps) in
    let step' : IsStep first t.entry.moment t.entry.seat t.entry.what t.outcome v.given v.last = grind (arith, common_steps) in
    let one = one_result first t.last v.last t.entry.moment t.entry.seat t.entry.what t.outcome t.given v.given u.0 step step' in
    let rest = one_run t.last last other taken others g.2 (rw one.1 g'.2) e.1 p.1 u.1 in (
      ap (λ (xs : List GivenAnswer). xs ++ flat_map (λ (w : Transition). w.given) taken) one.0
          ∙ ap (λ (xs : List GivenAnswer). v.given ++ xs) rest.0,
      rest.1,
    )

pub one_replay : (settings : Settings) (journal : List JournalEntry) (given others : List GivenAnswer) (last other : Machine)
    → Replay settings journal given last → Replay settings journal others other → (given ≡ others) × (last ≡ other)
one_replay settings journal given others last other r s =
    let shared = all_before_map (λ (o : Outcome). o.unshared ≡ false) (λ (t : Transition). t.outcome) r.taken
    (rw r.outcomes_are (all_of_map _ outcome_of journal (all_always _ journal (λ e. refl)))) in
    grind (arith, common_steps, one_run (new_machine settings) last other r.taken s.taken)
