use Rattle.std.proofs.Common.{◌≡◌, arith}
use Rattle.std.proofs.lemmas.Grind.{common_steps}
use Rattle.bq_line.specs.Tending.{IsNewDoor, door_seen}
use Rattle.bq_host.proofs.ListLemmas.{all_pushed, rest_passes}
use Rattle.bq_lock.proofs.doors_served.new_posts.Goals as goal

pub loop-door-preserved : goal.loop-door-preserved
loop-door-preserved g c =
    let i = c.loop-door.invariant in
    let limits = all_pushed _ _ _ (λ p. p.max_job_size ≡ c.args.max_job_size) c.push_reserved.ensures.items i.limits
    c.in-Ok-new.ensures.limit in
    let new = rest_passes _ _ _ (λ d. IsNewDoor (door_seen g.D.Door d)) c.in-Some.ensures.steps.0 i.new in
    grind (arith, common_steps)
