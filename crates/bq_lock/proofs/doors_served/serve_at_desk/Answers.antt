use Rattle.std.proofs.Common.{◌∙◌, sym}
use Rattle.std.proofs.lemmas.Slice.Zip.{AllZip-long}
use Rattle.bq_line.specs.Tending.{door_seen}
use Rattle.bq_lock.proofs.PostLemmas.{doors_back}
use Rattle.bq_lock.proofs.doors_served.serve_at_desk.Goals as goal

pub returns-in-Ok-serve_crew-clause-served : goal.returns-in-Ok-serve_crew-clause-served
returns-in-Ok-serve_crew-clause-served g c =
    (doors_back (door_seen g.D.Door) g.D.Door.same c.args.max_job_size (λ p. p.door) (λ p. p.max_job_size) c.in-Ok-new_posts.posts.items
    c.in-Ok-serve_crew.doors.items c.in-Ok-new_posts.ensures.limits c.in-Ok-serve_crew.ensures.crew).0

pub returns-in-Ok-serve_crew-clause-same : goal.returns-in-Ok-serve_crew-clause-same
returns-in-Ok-serve_crew-clause-same g c =
    rw (← c.in-Ok-new_posts.ensures.doors) (doors_back (door_seen g.D.Door) g.D.Door.same c.args.max_job_size (λ p. p.door)
    (λ p. p.max_job_size) c.in-Ok-new_posts.posts.items c.in-Ok-serve_crew.doors.items c.in-Ok-new_posts.ensures.limits
    c.in-Ok-serve_crew.ensures.crew).1

pub returns-in-Ok-serve_crew-clause-many : goal.returns-in-Ok-serve_crew-clause-many
returns-in-Ok-serve_crew-clause-many g c =
    c.in-Ok-serve_crew.doors.ok.0 ∙ AllZip-long _ _ _ (returns-in-Ok-serve_crew-clause-same g c) ∙ sym c.args.doors.ok.0
