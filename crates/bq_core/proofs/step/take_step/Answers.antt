use Rattle.std.proofs.Common.{ap, arith, max, rules, ◌∙◌, ◌≡◌}
use Rattle.bq_core.proofs.{StepCosts.{first_room, room_then, step_within}, StepLemmas.{dispatch_alike, timers_alike}}
use Rattle.bq_job.{proofs.{ClientStepLemmas.step_settings, LawfulLemmas.{only_tubes, step_is_lawful}}, specs.machine.Machine.Machine}
use Rattle.bq_job.specs.machine.{after_timers}
use Rattle.bq_state.specs.CoreParts.{machine_of}
use Rattle.bq_core.proofs.step.take_step.Goals as goal

pub serve-requires : goal.serve-requires
serve-requires c =
    let fires = c.fire.ensures.after ∙ ap after_timers c.raise_moment.ensures.after in
    let room = first_room c.args.state.now c.fire.new.state _ _ _ c.requires.lawful fires c.begin.ensures c.requires.room in
    grind (arith, timers_alike c.args.at (machine_of c.args.state.now) c.requires.lawful.tubes)

pub act_or_hand_out-requires : goal.act_or_hand_out-requires
act_or_hand_out-requires c =
    let fires = c.fire.ensures.after ∙ ap after_timers c.raise_moment.ensures.after in
    let serves = c.serve.ensures.served.serves in
    let room = first_room c.args.state.now c.fire.new.state _ _ _ c.requires.lawful fires c.begin.ensures c.requires.room in
    record { tubes = serves.tubes; room = serves.room 1 room }

pub serve-requires-2 : goal.serve-requires-2
serve-requires-2 c =
    let e = c.act_or_hand_out.ensures in
    let fires = c.fire.ensures.after ∙ ap after_timers c.raise_moment.ensures.after in
    record {
      tubes = dispatch_alike _ _ _ e.turns.turns (rw e.forgotten (only_tubes e.acted_machine));
      room = room_then c.args.state.now c.fire.new.state c.serve.new.state c.act_or_hand_out.new.state _ _ _ _ _ _ _
          c.requires.lawful fires c.begin.ensures c.serve.ensures.served e c.requires.room;
    }

pub returns : goal.returns
returns c =
    let fires = c.fire.ensures.after ∙ ap after_timers c.raise_moment.ensures.after in
    let moment : c.raise_moment.new.state.moment ≡ max c.args.state.now.moment c.args.at =
    ap (λ (x : Machine). x.moment) c.raise_moment.ensures.after in
    let timers = rw (c.raise_moment.ensures.jobs, moment) at c.fire.ensures.asks in
    let within = step_within c.args.state.now c.fire.new.state c.serve.new.state c.act_or_hand_out.new.state _ _ _ _ _ _ _
    c.requires.lawful fires c.begin.ensures c.serve.ensures.served c.act_or_hand_out.ensures c.serve-2.new.state _ timers
    c.serve-2.ensures.served in
    record {
      step = within.step;
      comparisons = within;
      lawful = step_is_lawful _ _ c.args.at c.args.seat c.args.what.now _ _ c.requires.lawful within.step;
      settings = step_settings _ _ c.args.at c.args.seat c.args.what.now _ _ within.step;
      most = search rules;
    }
