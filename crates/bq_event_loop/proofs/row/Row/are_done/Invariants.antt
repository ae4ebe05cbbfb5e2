use Rattle.std.proofs.Common.{◌≡◌, ◌<◌, ℕ}
use Rattle.std.specs.Prelude.{slice_index_or}
use Rattle.bq_line.specs.declared.attendant.Attendant.{Attendant}
use Rattle.bq_line.specs.declared.attendant.SeatPhase.TheVariants.{Done}
use Rattle.bq_event_loop.proofs.row.Row.are_done.Given as goal

abbrev pub invariant-loop-seat : goal.invariant-loop-seat
invariant-loop-seat g l = (k : ℕ) → k < l.seat → (a : Attendant g.row.L.Denot) → (slice_index_or l.fn.self.seats.items k a).phase ≡ Done
