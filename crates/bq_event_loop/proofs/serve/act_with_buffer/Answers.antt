use Rattle.bq_event_loop.proofs.ServingLemmas.{acted_rested, acted_then}
use Rattle.bq_event_loop.proofs.serve.act_with_buffer.Goals as goal

pub returns : goal.returns
returns g c =
    let t = c.act_on_task-progress.ensures in
    let back = c.exchange_if-2.ensures in
    acted_then (acted_rested c.requires.ready.0.0 c.exchange_if.ensures.keeps c.exchange_if.ensures.only)
    (acted_then t (acted_rested t.order back.keeps back.only))
