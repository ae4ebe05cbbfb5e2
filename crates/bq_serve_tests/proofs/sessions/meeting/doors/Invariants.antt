-- Doors with one client each, as the trait Door sees them.
use Rattle.std.proofs.Common.{map}
use Rattle.std.specs.List.{All}
use Rattle.std.specs.Option.{option_to_list}
use Rattle.bq_job.specs.declared.line_end.LineEnd.{LineEnd}
use Rattle.bq_job.specs.promise.History.{LineOver}
use Rattle.bq_line.specs.declared.line.io_line.IoLine.{IoLine}
use Rattle.bq_line.specs.Tending.{IsNewDoor}
use Rattle.bq_serve_tests.specs.declared.sessions.meeting.guest.Guest.{Guest}
use Rattle.bq_serve_tests.specs.declared.sessions.meeting.guest_door.GuestDoor.{GuestDoor}
use Rattle.bq_serve_tests.proofs.sessions.meeting.doors.Given as goal

abbrev over_of : IoLine Guest × LineEnd → LineOver
over_of over =
    record { seen = record { read = over.0.read; written = over.0.written; ended = over.0.ended; fault = over.0.fault }; over = over.1 }

-- the door was not used yet
abbrev pub IsNewGuest : GuestDoor → Type 0
IsNewGuest d = IsNewDoor (record { is_out = d.is_out; is_at_end = d.is_at_end; lines_over = map over_of (option_to_list d.over) })

abbrev pub invariant-loop-place : goal.invariant-loop-place
invariant-loop-place l = All IsNewGuest l.doors.items
