use Rattle.std.proofs.Common.{arith}
use Rattle.std.proofs.lemmas.Slice.Zip.{AllZip-long}
use Rattle.bq_line.specs.Tending.{door_seen}
use Rattle.bq_run.proofs.ThreadLemmas.{given_served}
use Rattle.bq_run.proofs.run.threads.serve_posts.Goals as goal

pub unzip-ends-requires-clause-ends : goal.unzip-ends-requires-clause-ends
unzip-ends-requires-clause-ends g c =
    let many = AllZip-long _ c.args.posts.seats.items c.in-Ok-serve_crew_beside.of_seats.items c.in-Ok-serve_crew_beside.ensures.crew in
    grind arith

pub unzip-ends-requires-clause-doors : goal.unzip-ends-requires-clause-doors
unzip-ends-requires-clause-doors g c =
    let many = AllZip-long _ c.args.posts.seats.items c.in-Ok-serve_crew_beside.of_seats.items c.in-Ok-serve_crew_beside.ensures.crew in
    grind arith

pub returns-in-Ok-serve_crew_beside-clause-served : goal.returns-in-Ok-serve_crew_beside-clause-served
returns-in-Ok-serve_crew_beside-clause-served g c =
    let posts = c.args.posts in
    rw (c.unzip-ends.ensures.ends, c.unzip-ends.ensures.doors)
    (given_served (door_seen g.D.Door) g.D.Door.same posts.core.new_core.config.max_job_size (λ p. p.end) (λ p. p.door)
    (λ p. p.max_job_size) posts.seats.items c.in-Ok-serve_crew_beside.of_seats.items posts.limits
    c.in-Ok-serve_crew_beside.ensures.crew).0

pub returns-in-Ok-serve_crew_beside-clause-same : goal.returns-in-Ok-serve_crew_beside-clause-same
returns-in-Ok-serve_crew_beside-clause-same g c =
    let posts = c.args.posts in
    rw c.unzip-ends.ensures.doors
    (given_served (door_seen g.D.Door) g.D.Door.same posts.core.new_core.config.max_job_size (λ p. p.end) (λ p. p.door)
    (λ p. p.max_job_size) posts.seats.items c.in-Ok-serve_crew_beside.of_seats.items posts.limits
    c.in-Ok-serve_crew_beside.ensures.crew).1
