use Rattle.std.proofs.Common.{◌≡◌}
use Rattle.bq_line.proofs.CarriedLemmas.{submits_on}
use Rattle.bq_line.proofs.attendant.submit_and_take.Goals as goal

pub returns-else-not-submit-clause-submitted : goal.returns-else-not-submit-clause-submitted
returns-else-not-submit-clause-submitted g c = λ step is.
    let same : c.step_mut.result.now ≡ step = let first = c.step_mut.ensures.value in cc in
    submits_on g.K.Link.trace _ _ _ _ _ step _ (rw same at c.if-not-submit.ensures.trace) c.take_or_wait.ensures.took
