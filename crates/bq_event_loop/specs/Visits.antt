-- The limits of a visit, and what the clock tells of a round.
use Rattle.std.specs.Prelude.{ℕ, ◌-◌, Bool, true, false, nat_lt, not}
use Rattle.bq_line.specs.declared.attendant.Progress.{Progress}
use Rattle.bq_line.specs.declared.attendant.Progress.TheVariants as results
use Rattle.bq_event_loop.specs.declared.order.visits.Part.{Part}
use Rattle.bq_event_loop.specs.declared.order.visits.Part.TheVariants as parts
use Rattle.bq_event_loop.specs.declared.order.visits.VisitLimit.{VisitLimit}
use Rattle.bq_event_loop.specs.declared.order.visits.VisitLimit.TheVariants as limits
use Rattle.bq_event_loop.specs.declared.order.visits.Visit.{Visit}
use Rattle.bq_event_loop.specs.declared.turns.Task.{Task}
use Rattle.bq_event_loop.specs.declared.turns.Task.TheVariants as tasks
use Rattle.bq_event_loop.specs.declared.turns.Turn.{Turn}
use Rattle.bq_event_loop.specs.declared.turns.Turn.TheVariants as turns

-- how many actions a visit may do
abbrev pub actions_of : VisitLimit → ℕ
actions_of limits.Commands = 128
actions_of limits.OneCommand = 2
actions_of limits.OneAnswer = 128

-- It begins no command.
abbrev pub only_writes : VisitLimit → Bool
only_writes limits.OneAnswer = true
only_writes _ = false

-- how many actions a turn counts as: a turn for a whole command counts as two
abbrev pub cost_of : Part → ℕ
cost_of parts.Answers = 2
cost_of _ = 1

-- How many more actions a visit may do after a turn: none after a part of a long answer.
abbrev pub left_after : Progress → ℕ → ℕ → ℕ
left_after results.Part cost left = 0
left_after _ cost left = left - cost

-- a turn for a whole command in the last part of a round, and otherwise for one action; once no
-- further command begins, for the rest of an answer
abbrev pub task_in : Bool → Part → Task
task_in is_over parts.Reads = tasks.Read
task_in is_over parts.Steps = tasks.Step
task_in true parts.Answers = tasks.Answer
task_in false parts.Answers = tasks.Command

abbrev pub turn_of : Visit → Turn
turn_of v = turns.Serve v.seat (task_in v.is_over v.part)

-- A step of this part took so long that it held up the seat after it.
abbrev pub holds_up : Part → ℕ → Bool
holds_up parts.Steps took = not (nat_lt took 50)
holds_up _ took = false
