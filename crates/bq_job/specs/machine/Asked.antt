-- The command's own effect: what each request and each other event does.
use Rattle.std.specs.Prelude.{ℕ, true, ◌&&◌, not, if◌then◌else◌, Option, Some, None, map}
use Rattle.bq_job.specs.machine.JobCommands.{bury_effect, delayed_by, delete_effect, kick_effect, kick_job_effect, put_effect}
use Rattle.bq_job.specs.machine.{Acts.{Effect, silent, telling}, Changes.{given_back, is_waiting, seat_with, with_seat}}
use Rattle.bq_job.specs.machine.JobCommands.{release_effect, reserve_effect, reserve_job_effect, touch_effect}
use Rattle.bq_job.specs.machine.{Limits.{later, raised}, Machine.{Machine, SeatRecord, empty_seat}}
use Rattle.bq_job.specs.machine.StatisticsCommands.{list_tubes_effect, list_watched_effect, stats_effect}
use Rattle.bq_job.specs.machine.{StatisticsCommands.{stats_job_effect, stats_tube_effect}, TubeCommands.ignore_effect}
use Rattle.bq_job.specs.machine.TubeCommands.{pause_effect, peek_buried_effect, peek_delayed_effect, peek_effect}
use Rattle.bq_job.specs.{machine.TubeCommands.{peek_ready_effect, use_effect, watch_effect}, Types.{Answer, JobState}}
use Rattle.bq_job.specs.Types.{Refusal, Request, Step}
use Rattle.bq_job.specs.declared.answer.Answer.TheVariants as answers
use Rattle.bq_job.specs.declared.refusal.Refusal.TheVariants as refusals
use Rattle.bq_job.specs.declared.request.Request.TheVariants as requests
use Rattle.bq_job.specs.declared.step.Step.TheVariants as steps

-- the answer to a request that the reader rejected
abbrev pub refusal_answer : Refusal → Answer
refusal_answer refusals.UnknownCommand = answers.UnknownCommand
refusal_answer refusals.BadFormat = answers.BadFormat
refusal_answer refusals.JobTooBig = answers.JobTooBig
refusal_answer refusals.ExpectedCrlf = answers.ExpectedCrlf
refusal_answer refusals.OutOfMemory = answers.OutOfMemory

-- what a request does at an open seat whose client does not wait
abbrev pub asked : Request → Machine → SeatRecord → Effect
asked (requests.Put pri delay ttr body) m s = put_effect pri delay ttr body m s
asked requests.Reserve m s = reserve_effect None m s
asked (requests.ReserveWithTimeout seconds) m s = reserve_effect (Some (later m.moment seconds)) m s
asked (requests.ReserveJob id) m s = reserve_job_effect id m s
asked (requests.Delete id) m s = delete_effect id m s
asked (requests.Release id pri delay) m s = release_effect id pri delay m s
asked (requests.Bury id pri) m s = bury_effect id pri m s
asked (requests.Touch id) m s = touch_effect id m s
asked (requests.Kick bound) m s = kick_effect bound m s
asked (requests.KickJob id) m s = kick_job_effect id m s
asked (requests.Use tube) m s = use_effect tube m s
asked requests.ListTubeUsed m s = telling (answers.Using s.used) m
asked (requests.Watch tube) m s = watch_effect tube m s
asked (requests.Ignore tube) m s = ignore_effect tube m s
asked (requests.Peek id) m s = peek_effect id m
asked requests.PeekReady m s = peek_ready_effect m s
asked requests.PeekDelayed m s = peek_delayed_effect m s
asked requests.PeekBuried m s = peek_buried_effect m s
asked (requests.PauseTube tube delay) m s = pause_effect tube delay m
asked (requests.StatsJob id) m s = stats_job_effect id m
asked (requests.StatsTube tube) m s = stats_tube_effect tube m
asked requests.Stats m s = stats_effect m
asked requests.ListTubes m s = list_tubes_effect m
asked requests.ListTubesWatched m s = list_watched_effect m s
asked requests.Quit m s = silent m
asked (requests.Refused why) m s = telling (refusal_answer why) m

-- a client connects to the seat
abbrev pub after_connect : Machine → ℕ → Machine
after_connect m seat =
    record (with_seat seat (λ s. record (empty_seat s.number) { connected = true }) m) { connections = raised m.connections }

abbrev pub with_end : SeatRecord → SeatRecord
with_end s = record s { ended = true }

-- the state of a job whose holder has disconnected: ready, or delayed if a requeue delay was chosen
abbrev pub state_once_left : Machine → JobState
state_once_left m = delayed_by m.settings.requeue_delay m.moment

-- The client has disconnected: the jobs that it holds become ready or delayed, and otherwise stay
-- as they were.
abbrev pub after_close : Machine → ℕ → Machine
after_close m seat =
    record (with_seat seat (λ s. empty_seat s.number) m) { jobs = map (given_back (state_once_left m) seat) m.jobs }

-- A closed seat is opened; at an open seat nothing happens.
abbrev pub connect_effect : Machine → SeatRecord → Effect
connect_effect m s = if s.connected then silent m else silent (after_connect m s.number)

-- A request is carried out only at an open seat whose client does not wait.
abbrev pub ask_effect : Request → Machine → SeatRecord → Effect
ask_effect request m s = if s.connected && not (is_waiting s) then asked request m s else silent m

-- An open seat is marked as ended.
abbrev pub end_effect : Machine → SeatRecord → Effect
end_effect m s = if s.connected then silent (with_seat s.number with_end m) else silent m

-- An open seat is closed, and answered `Closed`.
abbrev pub close_effect : Machine → SeatRecord → Effect
close_effect m s = if s.connected then telling answers.Closed (after_close m s.number) else silent m

abbrev pub at_found : (Machine → SeatRecord → Effect) → Machine → Option SeatRecord → Effect
at_found act m None = silent m
at_found act m (Some s) = act m s

-- Draining begins whichever seat the step is at. At a seat that does not exist, any other event
-- does nothing.
abbrev pub effect : Machine → ℕ → Step → Effect
effect m seat steps.Connect = at_found connect_effect m (seat_with seat m.seats)
effect m seat (steps.Ask request) = at_found (ask_effect request) m (seat_with seat m.seats)
effect m seat steps.End = at_found end_effect m (seat_with seat m.seats)
effect m seat steps.Close = at_found close_effect m (seat_with seat m.seats)
effect m seat steps.Drain = silent (record m { draining = true })
effect m seat steps.Tick = silent m
effect m seat steps.Gone = silent m
