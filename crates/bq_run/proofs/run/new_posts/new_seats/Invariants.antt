use Rattle.std.proofs.Common.{◌≡◌, ◌+◌, ◌≤◌, ◌++◌, length, map, vec_capacity, vec_len}
use Rattle.std.specs.List.{All}
use Rattle.bq_line.specs.Tending.{IsNewDoor, door_seen}
use Rattle.bq_run.specs.Threads.{IsNewEndAt}
use Rattle.bq_run.proofs.run.new_posts.new_seats.Given as goal

abbrev pub invariant-loop-door : goal.invariant-loop-door
invariant-loop-door g l = record {
  many : length l.ends.rest.items ≡ length l.door-iterator.rest.items;
  room : vec_len l.posts + length l.door-iterator.rest.items ≤ vec_capacity l.posts;
  limits : All (λ post. post.max_job_size ≡ l.max_job_size) l.posts.items;
  new_ends : All (λ end. IsNewEndAt l.intake.id end) l.ends.rest.items;
  new : All (λ door. IsNewDoor (door_seen g.D.Door door)) l.door-iterator.rest.items;
  ends : map (λ p. p.end) l.posts.items ++ l.ends.rest.items ≡ l.fn.ends.items;
  doors : map (λ p. p.door) l.posts.items ++ l.door-iterator.rest.items ≡ l.fn.doors.items;
}
