-- A lone connection is served at a hub.
use Rattle.std.proofs.Common.{◌≡◌, ◌≢◌, ℕ, ◌<◌, true, List, [], ◌∷◌}
use Rattle.std.proofs.Common.{filter, refl, sym, ◌∙◌, arith, inl, inr, append-nil, map}
use Rattle.std.specs.Prelude.{◌==◌}
use Rattle.std.specs.List.{list_all}
use Rattle.std.proofs.lemmas.Bool.{cases_Bool, eqb-true, eqb-false}
use Rattle.bq_job.specs.declared.answer.Answer.{Answer}
use Rattle.bq_job.specs.declared.line_end.LineEnd.{LineEnd}
use Rattle.bq_job.specs.declared.settings.Settings.{Settings}
use Rattle.bq_job.specs.declared.step.Step.{Step}
use Rattle.bq_job.specs.promise.History.{without_ticks}
use Rattle.bq_job.specs.promise.LineSteps.{LineSeen}
use Rattle.bq_job.specs.promise.Runs.{Entry}
use Rattle.bq_job.specs.beside.Ties.{IsLineJoined}
use Rattle.bq_seat.specs.declared.machine.Action.{Action}
use Rattle.bq_seat.specs.declared.machine.Action.TheVariants as actions
use Rattle.bq_seat.specs.declared.machine.SeatMachine.{SeatMachine}
use Rattle.bq_line.specs.Attending.{IsOnLine}
use Rattle.bq_line.specs.Carried.{CarriesOn, with_part}
use Rattle.bq_line.specs.declared.attendant.Progress.{Progress}
use Rattle.bq_host.specs.{Hubs.{HubTrace, state_of}, MailStates.{IsNewMailState, waiting}, Meanings.{Clock, Core}}
use Rattle.bq_host.specs.declared.hub.Hub.{Hub}
use Rattle.bq_host.proofs.{HubLemmas.{trace_none, trace_then}, TraceLemmas.{new_mails_are, none_waits}}
use Rattle.bq_line.proofs.CarriedLemmas.{none_begun}
use Rattle.bq_line.proofs.SeatLemmas.{carried_on, line_served}

-- the steps of these entries at a seat
abbrev steps_of : ℕ → List Entry → List Step
steps_of seat entries = map (λ (e : Entry). e.what) (filter (λ (e : Entry). e.seat == seat) entries)

others_rest : (seat other : ℕ) (e : Entry) (entries : List Entry) → other ≢ seat → (e.seat == seat) ≡ true
    → steps_of other (e ∷ entries) ≡ [] → steps_of other entries ≡ []
others_rest seat other e entries differs own none = grind (arith, eqb-true, cases_Bool)

own_first : (e : Entry) (entries : List Entry) → steps_of e.seat (e ∷ entries) ≡ [] → ⊥
own_first e entries none = grind (arith, cases_Bool, eqb-false)

-- If no other seat has a step among them, they are all of this seat.
all_own : (seat : ℕ) (entries : List Entry) → ((other : ℕ) → other ≢ seat → steps_of other entries ≡ [])
    → list_all (λ (e : Entry). e.seat == seat) entries ≡ true
all_own seat [] h = refl
all_own seat (e ∷ entries) h = elim (cases_Bool (e.seat == seat)) [
  | inl own ↦ rw own (all_own seat entries (λ other differs. others_rest seat other e entries differs own (h other differs)))
  | inr other ↦ absurd (own_first e entries (h e.seat (eqb-false e.seat seat other)))
]

module _ {C K : Type 0} (k : Core K) (c : Clock C) (first : Hub C K) where
  abbrev settings : Settings
  settings = (k.machine first.timed.core).settings

  -- From this hub on, only this seat did anything, and it served its connection.
  pub record IsServingAlone (seat : ℕ) (hub : Hub C K) (machine : SeatMachine) (seen : LineSeen) (action : Action) (sent : ℕ)
      : Type 0 where
    pub submitted : List Step
    pub taken : List Answer
    pub trace : HubTrace k c seat first submitted taken hub
    pub before : LineSeen
    pub part : seen ≡ with_part action sent before
    pub on_line : IsOnLine settings.max_job_size machine before action submitted taken

  pub begins_alone : (seat : ℕ) (machine : SeatMachine) (seen : LineSeen) (action : Action)
      → IsOnLine settings.max_job_size machine seen action [] [] → IsServingAlone seat first machine seen action 0
  begins_alone seat machine seen action on = record
      { submitted = []; taken = []; trace = trace_none k c seat first; before = seen; part = none_begun action seen; on_line = on }

  pub goes_on_alone : (result : Progress) (seat : ℕ) (hub next : Hub C K) (old new : SeatMachine) (seen later : LineSeen)
      (action then_action : Action) (sent now : ℕ) (submitted : List Step) (taken : List Answer)
      → IsServingAlone seat hub old seen action sent → HubTrace k c seat hub submitted taken next
      → CarriesOn result old seen action sent new later then_action now submitted taken
      → IsServingAlone seat next new later then_action now
  goes_on_alone result seat hub next old new seen later action then_action sent now submitted taken s w carries =
      let both = trace_then k c seat seat first hub next s.submitted submitted s.taken taken refl s.trace w in
      grind (arith, both, carried_on)

  -- A connection that has ended: what its seat and the core did, and how it fits together.
  pub over_alone : (seat : ℕ) (hub : Hub C K) (machine : SeatMachine) (seen : LineSeen) (end : LineEnd) (sent : ℕ)
      (s : IsServingAlone seat hub machine seen (actions.LineOver end) sent) → IsNewMailState settings (state_of k first)
      → seat < settings.seats
      → IsLineJoined settings seat (record { seen = seen; over = end }) s.trace.0.0 s.trace.0.2.history s.trace.0.2.trace.given
      (k.machine hub.timed.core)
  over_alone seat hub machine seen end sent s new within =
      let w = s.trace.0.2 in
      let d = w.trace in
      let on = rw (← s.part) at s.on_line in
      let line = line_served settings.max_job_size machine seen end s.submitted s.taken on in
      let none = none_waits settings (state_of k first) seat new in
      let many = new_mails_are settings (state_of k first) new in
      let tied = d.tied seat (omega arith) in
      let own = w.submitted_is ∙ sym (append-nil s.submitted) in
      record {
        taken = s.taken;
        waiting = waiting seat (state_of k hub);
        within = within;
        run = record { runs = rw new.core at d.runs; timed = rw new.heard at d.timed.picked };
        served = (s.submitted, [], s.taken, [], line, own, sym (append-nil s.taken), (refl, refl));
        answers_are = grind arith;
        of_nobody_else = all_own seat (without_ticks w.history) w.others_still;
      }
