use Rattle.std.proofs.Common.{refl}
use Rattle.bq_line.proofs.CarriedLemmas.{broke_off, not_yet, writes_this, wrote_part, wrote_whole}
use Rattle.bq_line.proofs.attendant.carry_out.Goals as goal

pub returns-in-Whole-clause-carried : goal.returns-in-Whole-clause-carried
returns-in-Whole-clause-carried g c =
    wrote_whole g.K.Link.trace _ _ _ _ _ (writes_this c.in-Write.ensures.action c.answer.ensures)
    (rw (c.in-Whole.is, c.expect_answers.ensures.seen) at c.write_answer.ensures.text) c.write_done.ensures

pub returns-in-Part-clause-carried : goal.returns-in-Part-clause-carried
returns-in-Part-clause-carried g c =
    rw (writes_this c.in-Write.ensures.action c.answer.ensures) (wrote_part g.K.Link.trace _ _ _ _ _ refl c.write_answer.new.sent
    (rw (c.in-Part.is, c.expect_answers.ensures.seen) at c.write_answer.ensures.text))

pub returns-in-NotYet-clause-carried : goal.returns-in-NotYet-clause-carried
returns-in-NotYet-clause-carried g c =
    rw (writes_this c.in-Write.ensures.action c.answer.ensures) (not_yet g.K.Link.trace _ _ _ _ _ refl c.write_answer.new.sent
    (rw (c.in-NotYet.is, c.expect_answers.ensures.seen) at c.write_answer.ensures.text))

pub returns-in-Fault-clause-carried : goal.returns-in-Fault-clause-carried
returns-in-Fault-clause-carried g c =
    broke_off g.K.Link.trace _ _ _ _ _ (writes_this c.in-Write.ensures.action c.answer.ensures)
    (rw (c.in-Fault.is, c.expect_answers.ensures.seen) at c.write_answer.ensures.text) c.write_fault.ensures
