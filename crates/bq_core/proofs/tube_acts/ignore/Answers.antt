use Rattle.std.proofs.Common.{sym, ◌≡◌}
use Rattle.bq_core.proofs.ActLemmas.{ignored_now}
use Rattle.bq_core.proofs.tube_acts.ignore.Goals as goal

pub returns-clause-reply : goal.returns-clause-reply
returns-clause-reply c s found =
    let same : c.in-Some.client.now ≡ s = cc c.in-Some.ensures in
    rw (c.set_answer-2.ensures, c.ignore_tube-count.ensures.count s found, c.ignore_tube-count.ensures.after s found)
    (ignored_now _ _ _ _ found (rw same at (sym c.if-not-watches_other.ensures)))
