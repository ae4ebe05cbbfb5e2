use Rattle.std.proofs.Common.{ap, refl, sym}
use Rattle.bq_core.proofs.{ActLemmas.some_there, TurnLemmas.if_ok}
use Rattle.bq_job.specs.machine.{job_statistics_or_not}
use Rattle.bq_state.specs.CoreParts.{machine_of}
use Rattle.bq_core.proofs.statistics_acts.stats_job.Goals as goal

pub returns-in-Some-Ok-clause-reply : goal.returns-in-Some-Ok-clause-reply
returns-in-Some-Ok-clause-reply c =
    let m = machine_of c.args.state.now in
    let there = some_there _ (sym c.in-Some-Ok.ensures.none) in
    let text = if_ok _ _ _ c.in-Some-Ok.field-0-is c.in-Some-Ok.ensures.text m there.0 refl there.1 in
    rw (c.set_answer.ensures, text, c.in-Some-Ok.ensures.kept.same) (ap (job_statistics_or_not m) there.1)
