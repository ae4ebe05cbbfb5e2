use Rattle.std.proofs.Common.{ap, arith, subst}
use Rattle.bq_core.{proofs.TurnLemmas.{somebody_waits, turn_falls, turn_given}, specs.HandOuts.HandsOut}
use Rattle.bq_job.specs.machine.Machine.{Machine}
use Rattle.bq_state.specs.CoreParts.{machine_of, machine_of_fields}
use Rattle.bq_core.proofs.dispatch.hand_out_one.Goals as goal

pub hand_out-requires : goal.hand_out-requires
hand_out-requires c =
    grind (arith, somebody_waits (machine_of c.args.state.now) _ c.requires.next c.in-Some.number c.in-Some.ensures.picked)

pub returns-in-Some-clause-given : goal.returns-in-Some-clause-given
returns-in-Some-clause-given c =
    turn_given (machine_of c.args.state.now) _ c.requires.next _ c.in-Some.ensures.picked _ c.in-Some.ensures.share _ _ _
    (subst (λ (x : Machine). HandsOut x c.args.id c.in-Some.number c.in-Some.shared c.args.outs.now c.hand_out.new.outs
    (machine_of c.hand_out.new.state)) (ap machine_of_fields c.in-Some.ensures.kept.same) c.hand_out.ensures.given)

pub returns-in-Some-clause-fewer : goal.returns-in-Some-clause-fewer
returns-in-Some-clause-fewer c =
    turn_falls (machine_of c.args.state.now) _ c.requires.next _ c.in-Some.ensures.picked _ c.in-Some.ensures.share _ _ _
    (subst (λ (x : Machine). HandsOut x c.args.id c.in-Some.number c.in-Some.shared c.args.outs.now c.hand_out.new.outs
    (machine_of c.hand_out.new.state)) (ap machine_of_fields c.in-Some.ensures.kept.same) c.hand_out.ensures.given)
