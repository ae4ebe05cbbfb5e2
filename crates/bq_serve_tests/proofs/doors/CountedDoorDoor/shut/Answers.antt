use Rattle.bq_serve_tests.proofs.doors.CountedDoorDoor.shut.Goals as goal

pub returns-clause-same : goal.returns-clause-same
returns-clause-same c first same = c.shut.ensures.same first.door same
