use Rattle.bq_event_loop.proofs.KnownLemmas.{chooses_any, chooses_then, chooses_tried}
use Rattle.bq_event_loop.proofs.order.Order.next_turn.Goals as goal

pub returns-in-Control : goal.returns-in-Control
returns-in-Control c = rw c.in-Control.is (chooses_any c.control_turn.ensures)

pub returns-in-Doors : goal.returns-in-Doors
returns-in-Doors c = rw c.in-Doors.is (chooses_any c.try_next_free.ensures)

pub returns-in-DoorTry : goal.returns-in-DoorTry
returns-in-DoorTry c = rw c.in-DoorTry.is (chooses_tried c.note_tried.ensures c.try_next_free-in-DoorTry.ensures)

pub returns-in-Away : goal.returns-in-Away
returns-in-Away c = rw c.in-Away.is (chooses_any c.begin_visits.ensures)

pub returns-in-Visits : goal.returns-in-Visits
returns-in-Visits c = rw c.in-Visits.is (chooses_any c.begin_next.ensures)

pub returns-in-Visit : goal.returns-in-Visit
returns-in-Visit c = rw c.in-Visit.is c.go_on.ensures

pub returns-in-VisitTry : goal.returns-in-VisitTry
returns-in-VisitTry c = rw c.in-VisitTry.is (chooses_tried c.note_tried-in-VisitTry.ensures c.begin_next-in-VisitTry.ensures)

pub returns-in-HandOn : goal.returns-in-HandOn
returns-in-HandOn c = rw c.in-HandOn.is (chooses_any (chooses_then c.enqueue.ensures.keeps c.begin_next-in-HandOn.ensures))
