use Rattle.std.proofs.Common.{sym, ◌≡◌}
use Rattle.bq_core.proofs.ActLemmas.{watched_already, watched_now}
use Rattle.bq_core.proofs.tube_acts.watch.Goals as goal

pub returns-then-watches-clause-reply : goal.returns-then-watches-clause-reply
returns-then-watches-clause-reply c s found =
    let same : c.in-Some.client.now ≡ s = cc c.in-Some.ensures in
    rw (c.set_answer.ensures, c.watch_count.ensures, same)
    (watched_already _ _ _ _ c.args.state.now.sound.numbered found (rw same at (sym c.if-watches.ensures)))

pub returns-in-Ok-clause-reply : goal.returns-in-Ok-clause-reply
returns-in-Ok-clause-reply c s found =
    let same : c.in-Some.client.now ≡ s = cc c.in-Some.ensures in
    rw (c.set_answer-in-Ok.ensures, c.in-Ok.ensures.count s found, c.in-Ok.ensures.watched s found)
    (watched_now _ _ _ _ found (rw same at (sym c.if-watches.ensures)))
