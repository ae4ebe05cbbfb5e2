-- What a step gives to one client: to the client that takes it, and to every other one.
use Rattle.std.proofs.Common.{ℕ, ◌≡◌, ◌<◌, Bool, true, false, ◌&&◌, ◌||◌, List, [], ◌++◌}
use Rattle.std.proofs.Common.{length, length-append, append_assoc, arith, refl, sym, ap, ◌∙◌, inl, inr, Option, Some, None}
use Rattle.std.proofs.lemmas.{Bool.{cases_Bool, cond_both}, Grind.common_steps}
use Rattle.std.specs.{List.{AllByRecursion as All, list_any}, Prelude.{◌==◌, IsTrue}}
use Rattle.bq_job.specs.machine.{Effect, GivenAnswer, IsStep, Machine.Machine, Memory, Outcome, SeatRecord}
use Rattle.bq_job.specs.machine.{at_found, at_moment, effect, empty_seat, end_effect, ends_waiting}
use Rattle.bq_job.specs.machine.{forgetting, is_connected_at, is_deadline_soon, is_possible}
use Rattle.bq_job.specs.machine.{is_until_over, is_wait_before, is_waiting, seat_with, silent}
use Rattle.bq_job.specs.beside.{GetsAnswer, GetsAtMost, GetsClosed, GetsWhatWaits, GivesClient, IsLawful, owing}
use Rattle.bq_job.specs.machine.{acted, addressed, after_close, after_connect, after_timers, shares_body, step_takes_memory}
use Rattle.bq_job.specs.{machine.{telling, with_end, with_seat}, promise.answers_to, Types.{Answer, Request, Step}}
use Rattle.bq_job.specs.declared.answer.Answer.TheVariants as answers
use Rattle.bq_job.specs.declared.step.Step.TheVariants as steps
use Rattle.bq_job.proofs.Trace.{of_serves, steady}
use Rattle.bq_job.proofs.ListLemmas.{all_at, all_both, all_pass, all_weaker, list_any_not, none_pass}
use Rattle.bq_job.proofs.OneClientLemmas.{Found, Passes, answers_append, changed_none, changed_numbers, changed_quiet, changed_some}
use Rattle.bq_job.proofs.OneClientLemmas.{connected_in, finds, one_for, passes, unclosed_append, waits_in}
use Rattle.bq_job.proofs.{ChoiceLemmas.first_of_none, KeptLemmas.is_open_wait}
use Rattle.bq_job.proofs.{LawfulLemmas.step_is_lawful, ReplyLemmas.{replies_acted, replies_effect}}
use Rattle.bq_job.proofs.ReplyLemmas.{stays_acted, told, told_elsewhere}

-- the parts of a step, as one client sees them
pub record Parts (client : ℕ) (first last : Machine) (seat : ℕ) (what : Step) (given : List GivenAnswer) : Type 0 where
  pub memory : Memory
  pub before : Machine
  pub early : List GivenAnswer
  pub late : List GivenAnswer
  pub comes : Passes client first.seats before.seats early
  pub possible : IsTrue (is_possible memory before seat what)
  pub goes : Passes client ((acted memory before seat what).machine).seats last.seats late
  pub given_is : given ≡ early ++ (addressed seat (acted memory before seat what).answer ++ late)

pub parts_of : (client : ℕ) (first last : Machine) (at seat : ℕ) (what : Step) (outcome : Outcome) (given : List GivenAnswer)
    → IsStep first at seat what outcome given last → Parts client first last seat what given
parts_of client first last at seat what outcome given s =
    let begin = of_serves (passes client) (forgetting (after_timers (at_moment at first))) s.handed s.ended s.before s.serves in
    let goes = of_serves (passes client) s.after s.handed_then s.ended_then last s.serves_then in
    grind (arith, common_steps, append_assoc)

-- A command gives the client no answer, and the client waits and is connected as before.
gets_quiet : (client : ℕ) (first last : Machine) (seat : ℕ) (what : Step) (given : List GivenAnswer)
    → Parts client first last seat what given → step_takes_memory what ≡ false → ((m : Machine) → (effect m seat what).answer ≡ None)
    → ((m : Machine) → waits_in client ((effect m seat what).machine).seats ≡ waits_in client m.seats)
    → ((m : Machine) → connected_in client ((effect m seat what).machine).seats ≡ connected_in client m.seats)
    → GetsWhatWaits first last client (answers_to client given)
gets_quiet client first last seat what given p takes untold waits connects =
    grind (arith, common_steps, answers_append, unclosed_append)

end_untold : (m : Machine) (o : Option SeatRecord) → (at_found end_effect m o).answer ≡ None
end_untold m o = grind (arith, common_steps, cases_Bool, cond_both)

-- A test of clients that the end of their input does not change.
end_quiet : (client : ℕ) (q : SeatRecord → Bool) → ((s : SeatRecord) → q (with_end s) ≡ q s) → (m : Machine) (o : Option SeatRecord)
    → list_any (λ s. s.number == client && q s) ((at_found end_effect m o).machine).seats
    ≡ list_any (λ s. s.number == client && q s) m.seats
end_quiet client q same m None = refl
end_quiet client q same m (Some s) =
    cond_both s.connected (silent (with_seat s.number with_end m)) (silent m)
    (λ e. list_any (λ s. s.number == client && q s) (e.machine).seats ≡ list_any (λ s. s.number == client && q s) m.seats)
    (λ e. changed_quiet client s.number with_end q m.seats (λ t. refl) same) (λ e. refl)

-- the answers to the client that takes the step
pub answers_of_parts : (seat : ℕ) (o : Option Answer) (early late given : List GivenAnswer) → given ≡ early ++ (addressed seat o ++ late)
    → answers_to seat given ≡ answers_to seat early ++ (told o ++ answers_to seat late)
answers_of_parts seat o early late given e = grind (arith, common_steps, answers_append)

-- If no client is connected at the seat, none waits there.
unconnected_waits_not : (seat : ℕ) (seats : List SeatRecord) → All (λ s. is_open_wait s ≡ true) seats → connected_in seat seats ≡ false
    → waits_in seat seats ≡ false
unconnected_waits_not seat seats waits c =
    list_any_not _ seats (all_weaker _ _ seats (λ s h. grind (arith, common_steps, cases_Bool))
    (all_both _ _ seats waits (none_pass (λ s. s.number == seat && s.connected) seats c)))

over_by_end : (waits soon past ended : Bool) → ended ≡ true → (waits && (soon || (past || ended))) ≡ false → waits ≡ false
over_by_end waits soon past ended e h = grind (arith, common_steps, cases_Bool)

abbrev seated : SeatRecord → SeatRecord
seated s = record (empty_seat s.number) { connected = true }

-- the client whose seat takes the step
module _ (first last : Machine) (seat : ℕ) (given : List GivenAnswer) (h : IsLawful first) (there : seat < first.settings.seats) where
  -- the seat, before the command's own effect
  found_before : {what : Step} (p : Parts seat first last seat what given) → Found seat (p.before).seats
  found_before p = finds first.settings.seats seat (p.before).seats (p.comes.numbers ∙ h.seats) there

  -- the effect of a command that allocates nothing and shares no body, and how the step goes on from there
  own_effect : {what : Step} (p : Parts seat first last seat what given) (e : Effect) → step_takes_memory what ≡ false
      → shares_body e.answer ≡ false → effect p.before seat what ≡ e
      → (acted p.memory p.before seat what ≡ e) × Passes seat (e.machine).seats last.seats p.late
  own_effect p e takes shares is = grind arith

  gives_connect : Parts seat first last seat steps.Connect given → connected_in seat first.seats ≡ false
      → (answers_to seat given ≡ []) × (owing seat last ≡ 0) × (is_connected_at seat last ≡ true)
  gives_connect p c =
      let m = p.before in
      let f = found_before p in
      let s = f.client in
      let waits_first : waits_in seat first.seats ≡ false =
      unconnected_waits_not seat first.seats (all_pass is_open_wait first.seats h.waits) c in
      let begin : ((length (answers_to seat p.early)) ≡ 0) × ((waits_in seat m.seats) ≡ false) = grind (arith, common_steps, cases_Bool) in
      let gone : s.connected ≡ false = sym f.connected ∙ p.comes.connected ∙ c in
      let e = own_effect p (silent (after_connect m s.number)) refl refl
      (grind (arith, common_steps)) in
      let waits_after = changed_none seat s.number seated is_waiting m.seats f.number (λ t. refl) in
      let connected_after = changed_some seat seated (λ t. t.connected) m.seats s f.number f.there (λ t. refl) (λ t. refl) in
      grind (arith, common_steps, answers_of_parts)

  -- A connected client makes a request, whether it waits or not.
  gives_answer : (request : Request) → Parts seat first last seat (steps.Ask request) given → connected_in seat first.seats ≡ true
      → GetsAtMost first last seat request (answers_to seat given)
      × (owing seat first ≡ 0 → GetsAnswer first last seat request (answers_to seat given))
  gives_answer request p c =
      let m = p.before in
      let f = found_before p in
      let o = (acted p.memory m seat (steps.Ask request)).answer in
      let all : answers_to seat given ≡ answers_to seat p.early ++ (told o ++ answers_to seat p.late) =
      answers_of_parts seat o p.early p.late given p.given_is in
      elim (cases_Bool (waits_in seat m.seats)) [
        | inl w ↦ grind (arith, common_steps, length-append, unclosed_append)
        | inr w ↦
            let reply = replies_acted p.memory m seat request w p.possible (replies_effect m seat request f (p.comes.connected ∙ c) w) in
            let before : one_for (waits_in seat m.seats) ≡ 0 = ap one_for w in
            ((grind (arith, common_steps, length-append, unclosed_append)), (λ none. grind (arith, common_steps, unclosed_append)))
      ]

  gives_closed : Parts seat first last seat steps.Close given → connected_in seat first.seats ≡ true
      → GetsClosed first last seat (answers_to seat given)
  gives_closed p c =
      let f = found_before p in
      let s = f.client in
      let e = own_effect p (telling answers.Closed (after_close p.before s.number)) refl refl
      (grind (arith, common_steps)) in
      let waits_after = changed_none seat s.number (λ t. empty_seat t.number) is_waiting p.before.seats f.number (λ t. refl) in
      let connected_after = changed_none seat s.number (λ t. empty_seat t.number) (λ t. t.connected) p.before.seats f.number (λ t. refl) in
      grind (arith, common_steps, answers_of_parts)

  -- A client that sends no more does not wait: no wait would end after the step.
  gives_end : IsLawful last → Parts seat first last seat steps.End given → connected_in seat first.seats ≡ true → owing seat last ≡ 0
  gives_end i p c =
      let m = p.before in
      let f = found_before p in
      let s = f.client in
      let here : s.connected ≡ true = sym f.connected ∙ p.comes.connected ∙ c in
      let e = own_effect p (silent (with_seat s.number with_end m)) refl refl
      (grind (arith, common_steps)) in
      let ended_after = changed_some seat with_end (λ t. t.ended) m.seats s f.number f.there (λ t. refl) (λ t. refl) in
      let same = changed_numbers s.number with_end m.seats (λ t. refl) in
      let g = finds first.settings.seats seat last.seats (e.1.numbers ∙ same ∙ p.comes.numbers ∙ h.seats) there in
      let r = g.client in
      let is_over : r.ended ≡ true = sym g.ended ∙ e.1.ended ∙ ended_after in
      let ends_not : ends_waiting last r ≡ false =
      all_at (λ t. ends_waiting last t ≡ false) last.seats r
      (none_pass (ends_waiting last) last.seats (first_of_none (ends_waiting last) is_wait_before last.seats i.wait_ends)) g.there in
      ap one_for (g.waits ∙ over_by_end (is_waiting r) (is_deadline_soon last r) (is_until_over last.moment r.wait) r.ended is_over
      ends_not)

-- A tick at any seat gives to any client what it waits for.
pub tick_gives_client : (first last : Machine) (at seat client : ℕ) (outcome : Outcome) (given : List GivenAnswer)
    → IsStep first at seat steps.Tick outcome given last → GetsWhatWaits first last client (answers_to client given)
tick_gives_client first last at seat client outcome given s =
    gets_quiet client first last seat steps.Tick given (search parts_of) refl (λ m. refl) (λ m. refl) (λ m. refl)

-- What a step gives to the client at its seat.
pub step_gives_client : (first last : Machine) (at seat : ℕ) (what : Step) (outcome : Outcome) (given : List GivenAnswer) → IsLawful first
    → seat < first.settings.seats → IsStep first at seat what outcome given last → GivesClient seat first what given last
step_gives_client first last at seat steps.Connect outcome given h there s =
    gives_connect first last seat given h there (parts_of seat first last at seat steps.Connect outcome given s)
step_gives_client first last at seat (steps.Ask request) outcome given h there s = λ c.
    (gives_answer first last seat given h there request (parts_of seat first last at seat (steps.Ask request) outcome given s) c).1
step_gives_client first last at seat steps.Close outcome given h there s = search (gives_closed, parts_of)
step_gives_client first last at seat steps.End outcome given h there s =
    let p = parts_of seat first last at seat steps.End outcome given s in (
      gets_quiet seat first last seat steps.End given p refl
          (λ m. end_untold m (seat_with seat m.seats)) (λ m. end_quiet seat is_waiting (λ s. refl) m (seat_with seat m.seats))
          (λ m. end_quiet seat (λ s. s.connected) (λ s. refl) m (seat_with seat m.seats)),
      gives_end first last seat given h there (step_is_lawful first last at seat steps.End outcome given h s) p,
    )
step_gives_client first last at seat steps.Drain outcome given h there s =
    gets_quiet seat first last seat steps.Drain given (search parts_of) refl (λ m. refl) (λ m. refl) (λ m. refl)
step_gives_client first last at seat steps.Tick outcome given h there s = tick_gives_client first last at seat seat outcome given s
step_gives_client first last at seat steps.Gone outcome given h there s =
    gets_quiet seat first last seat steps.Gone given (search parts_of) refl (λ m. refl) (λ m. refl) (λ m. refl)

-- A connected client makes a request, whether it waits or not.
pub asks_at_most : (first last : Machine) (at seat : ℕ) (request : Request) (outcome : Outcome) (given : List GivenAnswer) → IsLawful first
    → seat < first.settings.seats → is_connected_at seat first ≡ true → IsStep first at seat (steps.Ask request) outcome given last
    → GetsAtMost first last seat request (answers_to seat given)
asks_at_most first last at seat request outcome given h there c step =
    (gives_answer first last seat given h there request (parts_of seat first last at seat (steps.Ask request) outcome given step) c).0

-- A step of another seat gives the client what it waits for, and nothing else.
pub others_give : (first last : Machine) (at seat client : ℕ) (what : Step) (outcome : Outcome) (given : List GivenAnswer)
    → (seat == client) ≡ false → IsStep first at seat what outcome given last → GetsWhatWaits first last client (answers_to client given)
others_give first last at seat client what outcome given other step =
    let p : Parts client first last seat what given = parts_of client first last at seat what outcome given step in
    grind (arith, common_steps, stays_acted, answers_append, told_elsewhere, unclosed_append)

pub step_settings : (first last : Machine) (at seat : ℕ) (what : Step) (outcome : Outcome) (given : List GivenAnswer)
    → IsStep first at seat what outcome given last → last.settings ≡ first.settings
step_settings first last at seat what outcome given s =
    (of_serves steady s.after s.handed_then s.ended_then last s.serves_then).settings ∙ ap (λ (n : Machine). n.settings) s.acts
    ∙ (stays_acted 0 s.memory s.before seat what).settings
    ∙ (of_serves steady (forgetting (after_timers (at_moment at first))) s.handed s.ended s.before s.serves).settings
