use Rattle.bq_serve_tests.proofs.DoorLemmas.{all_pushed}
use Rattle.bq_serve_tests.proofs.sessions.meeting.doors.Invariants.{IsNewGuest}
use Rattle.bq_serve_tests.proofs.sessions.meeting.doors.Goals as goal

pub loop-place-preserved : goal.loop-place-preserved
loop-place-preserved c =
    all_pushed c.loop-place.doors.items _ c.new-door.result IsNewGuest c.in-Ok.ensures.items c.loop-place.invariant
    (record { inside = c.new-door.ensures.inside; more = c.new-door.ensures.more; none_over = c.new-door.ensures.none_over })

pub returns : goal.returns
returns c = c.loop-place.invariant
