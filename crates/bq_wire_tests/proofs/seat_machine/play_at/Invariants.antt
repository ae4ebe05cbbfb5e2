-- the name of the last action is a text
use denote.Shadow.{shadow}
use denote.Text.{Utf8}
use Rattle.bq_wire_tests.proofs.seat_machine.play_at.Given as goal

abbrev pub invariant-loop-row : goal.invariant-loop-row
invariant-loop-row l = shadow (Utf8 l.last)
