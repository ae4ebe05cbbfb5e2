-- Short words for worked examples of histories: connections that have ended, and the steps of all
-- clients.
use Rattle.std.specs.Prelude.{ℕ, true, false, List, [], ◌∷◌, map, length, flat_map, Option, Some, None}
use Rattle.bq_job.specs.declared.line_end.LineEnd.TheVariants as ends
use Rattle.bq_job.specs.declared.line_end.LineFault.TheVariants as faults
use Rattle.bq_job.specs.declared.step.Step.TheVariants as steps
use Rattle.bq_job.specs.{beside.{machine_after, transitions}, machine.GivenAnswer}
use Rattle.bq_wire_tests.specs.examples.Examples.{event, plain}
use Rattle.bq_job.specs.{machine.{Settings, new_machine}, promise.{DoorSoFar, Entry, IsHistoryOf, LineOver}}

-- the default limit on bodies
abbrev pub usual : ℕ
usual = 65535

abbrev pub seated : ℕ → Settings
seated seats = plain seats usual

-- a connection on which these bytes were read and written, and which ended with the end of its
-- input
abbrev pub ended_line : List ℕ → List ℕ → LineOver
ended_line read written = record { seen = record { read = read; written = written; ended = true; fault = None }; over = ends.EndOfInput }

-- a connection that claims the end of its input, although no read reported it
abbrev pub shut_line : List ℕ → List ℕ → LineOver
shut_line read written = record { seen = record { read = read; written = written; ended = false; fault = None }; over = ends.EndOfInput }

-- a connection that ended with a quit
abbrev pub quit_line : List ℕ → List ℕ → LineOver
quit_line read written = record { seen = record { read = read; written = written; ended = false; fault = None }; over = ends.Quit }

-- a connection that ended with a read fault
abbrev pub unread_line : List ℕ → List ℕ → LineOver
unread_line read written =
    record { seen = record { read = read; written = written; ended = false; fault = Some faults.Read }; over = ends.ReadFault }

-- a connection that ended with a write fault
abbrev pub unwritten_line : List ℕ → List ℕ → LineOver
unwritten_line read written =
    record { seen = record { read = read; written = written; ended = false; fault = Some faults.Write }; over = ends.WriteFault }

-- a door with this connection, which has ended, and with an open one that reached the end of its
-- input
abbrev pub closing_after : LineOver → DoorSoFar
closing_after line =
    record { over = line ∷ []; out = Some (record { read = []; written = []; ended = true; fault = None }); is_out = true }

-- the seat gets no more connections
abbrev pub gone : ℕ → Entry
gone seat = event seat steps.Gone

-- the control line, whose seat comes after those of the doors, sends drain
abbrev pub drain_at : ℕ → Entry
drain_at seat = event seat steps.Drain

-- one reading of the clock for each step
abbrev pub readings_of : List Entry → List (Option ℕ)
readings_of history = map (λ e. Some e.moment) history

-- the answers that the model gives over the history
abbrev pub given_over : Settings → List Entry → List GivenAnswer
given_over settings history = flat_map (λ t. t.given) (transitions (new_machine settings) history)

-- These doors and this control line have a history that leads to the same model as this one.
abbrev pub AreServedOver : List Entry → List (List LineOver) → List ℕ → Type 0
AreServedOver history doors control =
    let settings = seated (length doors) in
    IsHistoryOf settings doors control false (readings_of history) (machine_after (new_machine settings) history)
