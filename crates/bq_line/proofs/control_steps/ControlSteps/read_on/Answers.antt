use Rattle.bq_line.proofs.ToldLemmas.{tells_end_if, tells_fault_if}
use Rattle.bq_line.proofs.control_steps.ControlSteps.read_on.Goals as goal

pub returns-in-End-clause-tells : goal.returns-in-End-clause-tells
returns-in-End-clause-tells g c =
    let old = c.args.self.now in
    let e = c.in-End.ensures in
    tells_end_if g.I.ControlInput old.input c.next-heard.new.self old.line
    old.owes_drain old.stage c.says_drain-self-in-End.result c.requires.none_owed c.requires.more c.says_drain-self-in-End.ensures
    e.seen e.same e.left.0 e.left.1

pub returns-in-Fault-clause-tells : goal.returns-in-Fault-clause-tells
returns-in-Fault-clause-tells g c =
    let old = c.args.self.now in
    let e = c.in-Fault.ensures in
    tells_fault_if g.I.ControlInput old.input c.next-heard.new.self old.line
    old.owes_drain old.stage c.requires.none_owed c.requires.more e.seen e.same e.left e.fault
