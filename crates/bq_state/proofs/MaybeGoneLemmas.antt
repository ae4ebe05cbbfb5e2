-- The entries of tubes that may no longer exist, as jobs and seats change.
use Rattle.std.proofs.Common.{Bool, List, Some, [], arith, false, if◌then◌else◌, map, not, refl, set, slice_get, suc, true, rules}
use Rattle.std.proofs.{Common.{zero, ℕ, ◌++◌, ◌||◌, ◌∷◌, ◌≡◌}, Math.Bool.or-false, lemmas.{Bool.cases_Bool, Grind.common_steps}}
use Rattle.std.specs.{List.{AllByRecursion as All, list_any}, Prelude.filter}
use Rattle.bq_job.proofs.ListLemmas.{all_always, all_both, all_of_map, all_weaker, filter_all, map_all_same}
use Rattle.bq_job.specs.{beside.AreIdsWithin, declared.job.Job.Job, machine.{SeatRecord, TubeRecord, is_name_before}}
use Rattle.bq_job.specs.{machine.{is_seated_at, job_with, watching}, reading.TubeName.is_same_name}
use Rattle.bq_jobs.{proofs.Changes.{changed, found_id}, specs.JobsSeen.{with_added, without}}
use Rattle.bq_state.proofs.TubeLemmas.{all_inserted, before_differs, same_itself, same_name}
use Rattle.bq_state.specs.{MaybeGoneTubes.{AreAlive, may_be_gone, with_existing, with_gone}, TubeEntries.{has_entry, is_tube_of, provided}}
use Rattle.bq_state.specs.declared.known.maybe_gone.MaybeGone.{MaybeGone, TheVariants.{Nothing, Tube}}

-- a tube that is marked as possibly gone stays marked, and so is this one
pub still_gone : (more : List ℕ) (maybe : MaybeGone) (name : List ℕ) → (may_be_gone maybe name || is_same_name name more) ≡ true
    → may_be_gone (with_gone more maybe) name ≡ true
still_gone more maybe name h = search (rules, same_name, same_itself)

-- a job is added
pub any_added : (p : Job → Bool) (j : Job) (jobs : List Job) → list_any p (with_added j jobs) ≡ (p j || list_any p jobs)
any_added p j [] = refl
any_added p j (k ∷ jobs) = grind (arith, common_steps, cases_Bool, any_added p j jobs)

pub alive_added : (j : Job) (maybe : MaybeGone) (jobs : List Job) (seats : List SeatRecord) (entries : List TubeRecord)
    → AreAlive maybe jobs seats entries → AreAlive (with_existing j.tube maybe) (with_added j jobs) seats entries
alive_added j maybe jobs seats entries all = search (rules, all_weaker, any_added, same_name, same_itself)

-- a job is removed: only its tube may have lost its last job
any_without : (low next id : ℕ) (j : Job) (jobs : List Job) → AreIdsWithin low jobs next → job_with id jobs ≡ Some j → (p : Job → Bool)
    → list_any p jobs ≡ (p j || list_any p (without id jobs))
any_without low next id j jobs ids found p =
    let back = changed low next id (λ k. k) j jobs ids found (found_id id jobs j found) in
    grind (arith, common_steps, any_added, map_all_same, all_always)

-- and if a client uses or watches that tube, it exists
pub alive_taken : (low next id : ℕ) (j : Job) (maybe : MaybeGone) (jobs : List Job) (seats : List SeatRecord) (entries : List TubeRecord)
    (has_seats : Bool) → (has_seats ≡ true → list_any (is_seated_at j.tube) seats ≡ true)
    → AreIdsWithin low jobs next → job_with id jobs ≡ Some j → AreAlive maybe jobs seats entries
    → AreAlive (if not has_seats then with_gone j.tube maybe else maybe) (without id jobs) seats entries
alive_taken low next id j maybe jobs seats entries has_seats seated ids found all = all_weaker _ _ entries (λ t h.
    grind (arith, common_steps, any_without low next id j jobs ids found, same_name t.name j.tube, still_gone)) all

-- A seat at its place changes: the tubes that it leaves may be gone, and those of the other seats exist.
pub any_set : (p : SeatRecord → Bool) (q : Bool) (seats : List SeatRecord) (i : ℕ) (s new : SeatRecord) → slice_get seats i ≡ Some s
    → (p s ≡ true → (p new || q) ≡ true) → list_any p seats ≡ true → (list_any p (set seats i new) || q) ≡ true
any_set p q [] i s new found keeps h = absurd cc
any_set p q (t ∷ seats) zero s new found keeps h = grind (arith, common_steps, cases_Bool)
any_set p q (t ∷ seats) (suc i) s new found keeps h = grind (arith, common_steps, cases_Bool, any_set p q seats i s new)

pub alive_watching : (more : List ℕ) (i : ℕ) (s : SeatRecord) (maybe : MaybeGone) (jobs : List Job) (seats : List SeatRecord)
    (entries : List TubeRecord) → slice_get seats i ≡ Some s
    → AreAlive maybe jobs seats entries → AreAlive maybe jobs (set seats i (watching (s.watched ++ more ∷ []) s)) entries
alive_watching more i s maybe jobs seats entries found all = all_weaker _ _ entries
    (λ t h. grind (arith, common_steps, any_set (is_seated_at t.name) false seats i s (watching (s.watched ++ more ∷ []) s) found)) all

-- or one tube fewer
others_left : (gone name : List ℕ) (names : List (List ℕ)) → list_any (is_same_name name) names ≡ true
    → (list_any (is_same_name name) (filter (λ other. not (is_same_name gone other)) names) || is_same_name name gone) ≡ true
others_left gone name [] h = absurd cc
others_left gone name (n ∷ names) h = grind (arith, common_steps, same_name, same_itself, others_left gone name names)

pub alive_ignoring : (gone : List ℕ) (i : ℕ) (s : SeatRecord) (maybe : MaybeGone) (jobs : List Job) (seats : List SeatRecord)
    (entries : List TubeRecord) → slice_get seats i ≡ Some s → AreAlive maybe jobs seats entries
    → AreAlive (with_gone gone maybe) jobs (set seats i (watching (filter (λ other. not (is_same_name gone other)) s.watched) s)) entries
alive_ignoring gone i s maybe jobs seats entries found all = all_weaker _ _ entries (λ t h.
    let still = any_set (is_seated_at t.name) (is_same_name t.name gone) seats i s
    (watching (filter (λ other. not (is_same_name gone other)) s.watched) s) found in
    grind (arith, common_steps, others_left, still_gone)) all

-- an entry is added: it is new, so its tube may not exist
pub alive_provided : (name : List ℕ) (maybe : MaybeGone) (jobs : List Job) (seats : List SeatRecord) (entries : List TubeRecord)
    → has_entry name entries ≡ false → AreAlive maybe jobs seats entries
    → AreAlive (with_gone name maybe) jobs seats (provided name entries)
alive_provided name maybe jobs seats entries none all = search (rules, all_inserted, still_gone, same_itself, all_weaker)

-- names stay
pub alive_renamed : (f : TubeRecord → TubeRecord) → ((t : TubeRecord) → (f t).name ≡ t.name) → (maybe : MaybeGone) (jobs : List Job)
    (seats : List SeatRecord) (entries : List TubeRecord) → AreAlive maybe jobs seats entries → AreAlive maybe jobs seats (map f entries)
alive_renamed f keeps maybe jobs seats entries all = grind (arith, common_steps, all_of_map, all_weaker)

-- If no tube may have gone, all entries are kept.
pub all_kept_alive : (jobs : List Job) (seats : List SeatRecord) (entries : List TubeRecord) → AreAlive Nothing jobs seats entries
    → filter (λ t. is_tube_of jobs seats t.name) entries ≡ entries
all_kept_alive jobs seats entries all = grind (arith, common_steps, or-false, filter_all, all_weaker)

-- If one tube may have gone, all other entries are kept.
pub others_alive : (name : List ℕ) (jobs : List Job) (seats : List SeatRecord) (entries : List TubeRecord)
    → All (λ u. is_name_before name u.name ≡ true) entries → AreAlive (Tube name) jobs seats entries → AreAlive Nothing jobs seats entries
others_alive name jobs seats entries later all = grind (arith, all_weaker, before_differs, all_both _ _ entries later all)

-- after that, each entry is of a tube that exists
pub alive_forgotten : (jobs : List Job) (seats : List SeatRecord) (entries : List TubeRecord)
    → AreAlive Nothing jobs seats (filter (λ t. is_tube_of jobs seats t.name) entries)
alive_forgotten jobs seats [] = tt
alive_forgotten jobs seats (t ∷ entries) = grind (arith, alive_forgotten jobs seats entries)
