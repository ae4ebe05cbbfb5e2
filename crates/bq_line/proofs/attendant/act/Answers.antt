use Rattle.std.proofs.Common.{[], ◌∷◌, refl, rules}
use Rattle.bq_line.proofs.attendant.act.Goals as goal

pub returns-in-Read-clause-carried : goal.returns-in-Read-clause-carried
returns-in-Read-clause-carried g c = rw c.in-Read.ensures.action (search rules)

pub returns-in-Write-clause-carried : goal.returns-in-Write-clause-carried
returns-in-Write-clause-carried g c = rw c.in-Write.ensures.action.1 (search rules)

pub returns-then-mail-clause-carried : goal.returns-then-mail-clause-carried
returns-then-mail-clause-carried g c =
    let came = rw c.if-mail.true at c.mail.ensures.trace in
    let moved = c.mail-then-mail.ensures.moved came.0 came.1 in
    rw c.in-PollMail.ensures.action ([], came.0 ∷ [], came.2, (refl, refl, (came.0, refl, moved)))

pub returns-else-mail-clause-carried : goal.returns-else-mail-clause-carried
returns-else-mail-clause-carried g c =
    let none = rw c.if-mail.false at c.mail.ensures.trace in
    rw c.in-PollMail.ensures.action (search rules)

pub returns-in-LineOver-clause-carried : goal.returns-in-LineOver-clause-carried
returns-in-LineOver-clause-carried g c = rw c.in-LineOver.ensures.action (search rules)

pub returns-in-Stray-clause-carried : goal.returns-in-Stray-clause-carried
returns-in-Stray-clause-carried g c = rw c.in-Stray.ensures.action (search rules)
