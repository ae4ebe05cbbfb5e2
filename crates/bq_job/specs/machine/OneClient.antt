-- One client: whether it is connected and waits, and whether it was answered `Closed`.
use Rattle.std.specs.{List.list_any, Prelude.{◌&&◌, ◌==◌, Bool, List, ℕ, false, true}}
use Rattle.bq_job.specs.{declared.answer.Answer.Answer, machine.{Changes.is_waiting, Machine.Machine}}
use Rattle.bq_job.specs.declared.answer.Answer.TheVariants as answers

abbrev pub is_connected_at : ℕ → Machine → Bool
is_connected_at seat m = list_any (λ s. s.number == seat && s.connected) m.seats

abbrev pub is_waiting_at : ℕ → Machine → Bool
is_waiting_at seat m = list_any (λ s. s.number == seat && is_waiting s) m.seats

abbrev pub is_closed_answer : Answer → Bool
is_closed_answer answers.Closed = true
is_closed_answer _ = false

abbrev pub has_closed : List Answer → Bool
has_closed given = list_any is_closed_answer given
