use Rattle.std.proofs.Common.{refl}
use Rattle.bq_seat.proofs.MoveLemmas.{mail_in_leaving, turn}
use Rattle.bq_seat.proofs.OpenLemmas.{answered}
use Rattle.bq_seat.proofs.machine.SeatMachine.mail.Goals as goal

pub returns-in-Polling-clause-moved : goal.returns-in-Polling-clause-moved
returns-in-Polling-clause-moved c = λ answer lies. turn c.in-Polling.is lies refl (refl, refl, refl, tt, tt)
    (λ p h. answered answer h) (λ p h. rw h.0.stepped.closing_is refl)

pub returns-in-Leaving-clause-moved : goal.returns-in-Leaving-clause-moved
returns-in-Leaving-clause-moved c = λ answer lies. mail_in_leaving _ _ _ _ _ answer c.in-Leaving.is c.mail_after_close.ensures.limit
    (c.mail_after_close.ensures.action answer lies) (c.mail_after_close.ensures.after answer lies)
