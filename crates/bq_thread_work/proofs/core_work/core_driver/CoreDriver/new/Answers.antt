use Rattle.std.proofs.Common.{[], arith}
use Rattle.std.proofs.lemmas.List.{length-replicate}
use Rattle.bq_thread_work.proofs.WorkedLemmas.{known_none, worked_none}
use Rattle.bq_thread_work.proofs.core_work.core_driver.CoreDriver.new.Goals as goal

pub returns-clause-order : goal.returns-clause-order
returns-clause-order g c = grind (arith, length-replicate, known_none)

pub returns-clause-work : goal.returns-clause-work
returns-clause-work g c = ([], rw c.over.ensures.clock (g.met.C.Clock.none_given c.args.clock), grind (arith, worked_none))
