use Rattle.std.proofs.Common.{ap, refl}
use Rattle.bq_core.proofs.AtOnceLemmas.{acted_alone}
use Rattle.bq_state.specs.CoreParts.{machine_of_fields}
use Rattle.bq_core.proofs.dispatch.act_or_hand_out.Goals as goal

pub returns-in-None : goal.returns-in-None
returns-in-None c =
    let looked = c.in-None.ensures.kept refl in
    acted_alone c.args.state.now c.take_at_once.new.state c.act.new.state c.forget_tubes.new.state _ _ _ _ _
    (ap machine_of_fields looked.same, refl, looked.asks) c.act.ensures.acts c.act.ensures.asks c.forget_tubes.ensures.after
    c.forget_tubes.ensures.jobs
