use Rattle.std.proofs.Common.{◌≡◌, ◌≤◌, ◌+◌, ◌++◌, length, map, vec_capacity, vec_len}
use Rattle.std.specs.List.{All}
use Rattle.bq_line.specs.Tending.{IsNewDoor, door_seen}
use Rattle.bq_lock.proofs.doors_served.new_posts.Given as goal

abbrev pub invariant-loop-door : goal.invariant-loop-door
invariant-loop-door g l = record {
  few : vec_len l.posts + length l.door-iterator.rest.items ≤ 65535;
  room : vec_len l.posts + length l.door-iterator.rest.items ≤ vec_capacity l.posts;
  limits : All (λ post. post.max_job_size ≡ l.max_job_size) l.posts.items;
  new : All (λ door. IsNewDoor (door_seen g.D.Door door)) l.door-iterator.rest.items;
  doors : map (λ post. post.door) l.posts.items ++ l.door-iterator.rest.items ≡ l.fn.doors.items;
}
