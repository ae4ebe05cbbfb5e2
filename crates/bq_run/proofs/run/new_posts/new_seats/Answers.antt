use Rattle.std.proofs.Common.{◌≡◌, arith}
use Rattle.std.proofs.lemmas.Grind.{common_steps}
use Rattle.bq_line.specs.Tending.{IsNewDoor, door_seen}
use Rattle.bq_host.proofs.ListLemmas.{all_pushed, first_passes, rest_passes}
use Rattle.bq_run.specs.Threads.{IsNewEndAt}
use Rattle.bq_run.proofs.run.new_posts.new_seats.Goals as goal

pub loop-door-preserved : goal.loop-door-preserved
loop-door-preserved g c =
    let i = c.loop-door.invariant in
    let size = all_pushed _ _ _ (λ p. p.max_job_size ≡ c.args.max_job_size) c.push_reserved.ensures.items i.limits
    c.in-Ok-new.ensures.limit in
    let ends = rest_passes _ _ _ (λ e. IsNewEndAt c.args.intake.now.id e) c.in-Some-next.ensures.items i.new_ends in
    let doors = rest_passes _ _ _ (λ d. IsNewDoor (door_seen g.D.Door d)) c.in-Some.ensures.steps.0 i.new in
    grind (arith, common_steps)

pub new-requires-clause-new_end : goal.new-requires-clause-new_end
new-requires-clause-new_end g c =
    first_passes _ _ _ (λ e. IsNewEndAt c.args.intake.now.id e) c.in-Some-next.ensures.items c.loop-door.invariant.new_ends

pub new-requires-clause-new : goal.new-requires-clause-new
new-requires-clause-new g c =
    first_passes _ _ _ (λ d. IsNewDoor (door_seen g.D.Door d)) c.in-Some.ensures.steps.0 c.loop-door.invariant.new
