use Rattle.std.proofs.Common.{ap, refl, sym}
use Rattle.bq_core.proofs.{ActLemmas.reserve_job_done, TurnLemmas.if_ok}
use Rattle.bq_state.specs.CoreParts.{machine_of_fields}
use Rattle.bq_core.proofs.job_acts.reserve_job.Goals as goal

pub returns-clause-reply : goal.returns-clause-reply
returns-clause-reply c s at = rw c.set_answer.ensures (reserve_job_done _ _ _ _ s _ _ _ at (sym c.if-not-has_job.ensures.has)
    (ap machine_of_fields c.if-not-has_job.ensures.kept.same) (rw c.in-Some.ensures.kept.same refl)
    (if_ok _ _ _ c.in-Ok.is c.in-Some.ensures.body) c.change_job.ensures.after)
