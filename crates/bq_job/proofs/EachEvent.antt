-- What an event can do to the model. A property of each possibility is a property of every event's
-- effect.
use Rattle.std.proofs.{Common.{◌≡◌, Some, ℕ, arith, false, true}, lemmas.Bool.eqb-true}
use Rattle.std.proofs.lemmas.Grind.{common_steps}
use Rattle.std.specs.List.{Contains}
use Rattle.bq_job.specs.declared.answer.Answer.TheVariants as answers
use Rattle.bq_job.specs.declared.step.Step.TheVariants as steps
use Rattle.bq_job.specs.machine.{Effect, Machine.Machine, Memory, SeatRecord, acted, after_close, after_connect, ask_effect, asked}
use Rattle.bq_job.specs.machine.{at_found, close_effect, connect_effect, effect, end_effect, granted, growth_refused, is_waiting, seat_with}
use Rattle.bq_job.specs.{machine.{share_refused, silent, telling, with_end, with_seat}, Types.{Request, Step}}
use Rattle.bq_job.proofs.ListLemmas.{found_passes}

-- the seat of the number
pub record IsSeat (m : Machine) (seat : ℕ) (s : SeatRecord) : Type 0 where
  pub found : seat_with seat m.seats ≡ Some s
  pub number : s.number ≡ seat
  pub there : Contains m.seats s

-- The property holds of all that an event at the seat can do: nothing, a client that connects, a
-- request at an open seat whose client does not wait, an end of input, a close, and the beginning
-- of draining.
pub record HoldsOfEach (m : Machine) (seat : ℕ) (P : Step → Effect → Type 0) : Type 0 where
  pub nothing : (what : Step) → P what (silent m)
  pub connects : (s : SeatRecord) → IsSeat m seat s → P steps.Connect (silent (after_connect m s.number))
  pub asks : (request : Request) (s : SeatRecord) → IsSeat m seat s → s.connected ≡ true → is_waiting s ≡ false
      → P (steps.Ask request) (asked request m s)
  pub ends : (s : SeatRecord) → IsSeat m seat s → P steps.End (silent (with_seat s.number with_end m))
  pub closes : (s : SeatRecord) → IsSeat m seat s → P steps.Close (telling answers.Closed (after_close m s.number))
  pub drains : P steps.Drain (silent (record m { draining = true }))

-- the seat of the number, if there is one
at_seat : (m : Machine) (seat : ℕ) (act : Machine → SeatRecord → Effect) (P : Effect → Type 0) → P (silent m)
    → ((s : SeatRecord) → IsSeat m seat s → P (act m s)) → P (at_found act m (seat_with seat m.seats))
at_seat m seat act P nothing each = grind (arith, common_steps, found_passes, eqb-true)

-- every event
pub each_event : (m : Machine) (seat : ℕ) (P : Step → Effect → Type 0) → HoldsOfEach m seat P → (what : Step) → P what (effect m seat what)
each_event m seat P h steps.Connect =
    at_seat m seat connect_effect (P steps.Connect) (h.nothing steps.Connect) (λ s is. grind (arith, common_steps))
each_event m seat P h (steps.Ask request) =
    at_seat m seat (ask_effect request) (P (steps.Ask request)) (h.nothing (steps.Ask request)) (λ s is. grind (arith, common_steps))
each_event m seat P h steps.End = at_seat m seat end_effect (P steps.End) (h.nothing steps.End) (λ s is. grind (arith, common_steps))
each_event m seat P h steps.Close =
    at_seat m seat close_effect (P steps.Close) (h.nothing steps.Close) (λ s is. grind (arith, common_steps))
each_event m seat P h steps.Drain = h.drains
each_event m seat P h steps.Tick = h.nothing steps.Tick
each_event m seat P h steps.Gone = h.nothing steps.Gone

-- every event, whether or not memory was lacking
pub each_acted : (m : Machine) (seat : ℕ) (P : Step → Effect → Type 0) → HoldsOfEach m seat P
    → ((what : Step) → P what (telling answers.OutOfMemory m)) → (memory : Memory) (what : Step) → P what (acted memory m seat what)
each_acted m seat P h refused granted what = each_event m seat P h what
each_acted m seat P h refused growth_refused what = refused what
each_acted m seat P h refused share_refused what = refused what
