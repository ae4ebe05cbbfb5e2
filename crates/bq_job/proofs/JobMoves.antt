-- What a part of a step may do to jobs, as moves: a quiet one, a put, and a job that dispatch hands out.
use Rattle.std.proofs.Common.{ℕ, suc, ◌≡◌, ◌<◌, Bool, true, false, cond, List, [], ◌∷◌, ◌++◌, map, Option, Some, None}
use Rattle.std.proofs.Common.{append-nil, append_assoc}
use Rattle.std.specs.{List.{AllByRecursion as All, Contains, list_any}, Prelude.◌==◌}
use Rattle.bq_job.specs.{beside.AreIdsWithin, declared.job.Job.Job, laws.{Happening, disturbs, handed_out}}
use Rattle.bq_job.specs.{laws.{is_deletion, put}, machine.{is_job_before, is_ready, is_reserved, job_with}}
use Rattle.bq_job.specs.machine.{reserved_by, Machine.Machine}

-- neither a put nor a hand-out
abbrev pub is_plain : Happening → Bool
is_plain (put j) = false
is_plain (handed_out id) = false
is_plain _ = true

-- The job with an id goes on as this one, as far as these happenings do not disturb it.
pub record GoesOnAs (id : ℕ) (j k : Job) (happened : List Happening) : Type 0 where
  pub same : k.id ≡ j.id
  pub tube : k.tube ≡ j.tube
  pub body : k.body ≡ j.body
  pub ready : is_ready j ≡ true → list_any (disturbs id) happened ≡ false → (is_ready k ≡ true) × (k.pri ≡ j.pri)
  pub held : is_reserved j.state ≡ true → list_any (disturbs id) happened ≡ false → is_reserved k.state ≡ true

-- what becomes of the job with an id
abbrev pub Fate : ℕ → List Happening → Option Job → Option Job → Type 0
Fate id happened None after = after ≡ None
Fate id happened (Some j) None = list_any (is_deletion id) happened ≡ true
Fate id happened (Some j) (Some k) = GoesOnAs id j k happened

pub record IsQuiet (m : Machine) (happened : List Happening) (n : Machine) : Type 0 where
  pub next : n.next_id ≡ m.next_id
  pub plain : All (λ h. is_plain h ≡ true) happened
  pub fates : (id : ℕ) → Fate id happened (job_with id m.jobs) (job_with id n.jobs)

pub record IsPutMove (m : Machine) (happened : List Happening) (n : Machine) : Type 0 where
  pub job : Job
  pub happened_is : happened ≡ put job ∷ []
  pub id : job.id ≡ m.next_id
  pub next : n.next_id ≡ suc m.next_id
  pub jobs : n.jobs ≡ m.jobs ++ job ∷ []
  pub ids : AreIdsWithin 1 m.jobs job.id
  pub at_once : job.delay ≡ 0 → is_ready job ≡ true

pub record IsHandOutMove (m : Machine) (happened : List Happening) (n : Machine) : Type 0 where
  pub job : Job
  pub seat : ℕ
  pub happened_is : happened ≡ handed_out job.id ∷ []
  pub next : n.next_id ≡ m.next_id
  pub jobs : n.jobs ≡ map (λ j. cond (j.id == job.id) (reserved_by m.moment seat j) j) m.jobs
  pub there : job_with job.id m.jobs ≡ Some job
  pub below : job.id < m.next_id
  pub ready : is_ready job ≡ true
  pub least : (k : Job) → Contains m.jobs k → is_ready k ≡ true → k.tube ≡ job.tube → is_job_before k job ≡ false

pub data Move (m : Machine) (happened : List Happening) (n : Machine) : Type 0 where
  quiet : IsQuiet m happened n → Move m happened n
  putting : IsPutMove m happened n → Move m happened n
  handing : IsHandOutMove m happened n → Move m happened n

-- The model goes on by moves, in which this happens to jobs.
pub data Goes : Machine → List Happening → Machine → Type 0 where
  stops : {m : Machine} → Goes m [] m
  moves : {m n : Machine} (k : Machine) (xs ys : List Happening) → Move m xs k → Goes k ys n → Goes m (xs ++ ys) n

pub goes_one : (m : Machine) (happened : List Happening) (n : Machine) → Move m happened n → Goes m happened n
goes_one m happened n move = rw append-nil at (moves n happened [] move stops)

pub goes_then : (m k n : Machine) (xs ys : List Happening) → Goes m xs k → Goes k ys n → Goes m (xs ++ ys) n
goes_then m k n [] ys stops g = g
goes_then m k n _ ys (moves l us vs move rest) g = rw append_assoc (moves l us (vs ++ ys) move (goes_then l k n vs ys rest g))
