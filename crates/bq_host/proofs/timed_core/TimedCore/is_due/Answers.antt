use Rattle.std.proofs.Common.{inl, inr, refl}
use Rattle.bq_host.proofs.timed_core.TimedCore.is_due.Goals as goal

pub returns-in_default-clause-over : goal.returns-in_default-clause-over
returns-in_default-clause-over g c = (c.next_due.new.self, c.next_due.ensures.known, inl refl)

pub returns-then-self-due-clause-over : goal.returns-then-self-due-clause-over
returns-then-self-due-clause-over g c = (c.next_due.new.self, c.next_due.ensures.known, inl refl)

pub returns-clause-over : goal.returns-clause-over
returns-clause-over g c =
    (c.next_due.new.self, c.next_due.ensures.known, inr (c.hear-reading.result, c.hear-reading.ensures, refl))
