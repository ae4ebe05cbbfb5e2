-- Kicking the first job in a list repeatedly kicks the first ones in order.
use lib.Seq.{take-nil}
use Rattle.std.proofs.Common.{Bool, List, None, Option, Some, [], ap, arith, false, filter, if◌then◌else◌, inl, inr, length, map}
use Rattle.std.proofs.Common.{map-id, not, refl, suc, sym, take, true, ℕ, ◌+◌, ◌-◌, ◌<◌, ◌==◌, ◌∙◌, ◌∷◌, ◌≡◌, ◌≤◌}
use Rattle.std.proofs.lemmas.Bool.{cases_Bool, eqb-true}
use Rattle.std.{proofs.lemmas.{Grind.common_steps}, specs.List.AllByRecursion as All}
use Rattle.std.specs.Prelude.{option_map}
use Rattle.bq_core.{proofs.ActLemmas.none_left, specs.Kicking.{KicksFirst, all_kicked, jobs_of}}
use Rattle.bq_job.proofs.{BecomeLemmas.{all_in_order, all_of_take}, ChoiceLemmas.{first_of_is_least, first_of_is_some, first_of_none}}
use Rattle.bq_job.proofs.{ChoiceLemmas.{first_of_passes, pair_order, pair_other}, KeptLemmas.ids_of_filter, ListLemmas.all_from_members}
use Rattle.bq_job.{proofs.ListLemmas.{all_of_filter, all_weaker, find_in_filter, list_any_not}, specs.beside.AreIdsWithin}
use Rattle.bq_job.specs.{declared.job.Job.Job, machine.{first_of, in_order, is_buried_before, is_buried_in, job_with, kickable, kicked}}
use Rattle.bq_job.specs.machine.{kicked_first, put_in_order}
use Rattle.bq_jobs.proofs.Changes.{all_found, all_kept, chosen_has_its_id, others_above}
use Rattle.bq_jobs.specs.Ranks.{first_in, is_before_by, is_listed, list_rank}
use Rattle.bq_jobs.specs.declared.places.JobList.{JobList, TheVariants.{Buried, Delayed}}
use Rattle.bq_state.proofs.TubeLemmas.{some_left}

-- a job is the only one with its id
pub one_of_id : (id low next : ℕ) (jobs : List Job) (j : Job) → AreIdsWithin low jobs next → job_with id jobs ≡ Some j
    → All (λ x. (x.id == id) ≡ true → x ≡ j) jobs
one_of_id id low next jobs j h found = grind (arith, all_weaker, all_found)

-- What comes before all others is at the head.
at_head : (before : Job → Job → Bool) (j : Job) (ks : List Job) → All (λ y. before y j ≡ false) ks → put_in_order before j ks ≡ j ∷ ks
at_head before j [] all = refl
at_head before j (k ∷ ks) all = rw all.0 refl

-- the first one is at the head of the ordered list
first_ordered : (before : Job → Job → Bool) (j : Job) → ((x : Job) → before x j ≡ false → (x.id == j.id) ≡ false → before j x ≡ true)
    → (low next : ℕ) (js : List Job) → AreIdsWithin low js next → All (λ x. before x j ≡ false) js → job_with j.id js ≡ Some j
    → in_order before js ≡ j ∷ in_order before (filter (λ x. not (x.id == j.id)) js)
first_ordered before j other low next [] ids all found = absurd cc
first_ordered before j other low next (x ∷ js) ids all found = elim (cases_Bool (x.id == j.id)) [
  | inl same ↦
      let is : x ≡ j = let here = rw same at found in cc in
      let at : x.id ≡ j.id = eqb-true x.id j.id same in
      rw (same, all_kept j.id js (others_above j.id (suc x.id) next js (omega arith) ids.1), is)
      (at_head before j (in_order before js) (all_in_order (λ y. before y j ≡ false) before js all.1))
  | inr apart ↦
      rw (apart, first_ordered before j other (suc x.id) next js ids.1 all.1 (rw apart at found), other x all.0 apart) refl
]

-- a kicked job is no longer in the list
kicked_are_out : (p : Job → Bool) (id : ℕ) → ((k : Job) → p (kicked k) ≡ false) → (js : List Job)
    → filter p (map (λ k. if k.id == id then kicked k else k) js) ≡ filter (λ k. not (k.id == id)) (filter p js)
kicked_are_out p id out [] = refl
kicked_are_out p id out (x ∷ js) = grind (arith, common_steps, kicked_are_out p id out js)

-- the remaining jobs are others
left_are_others : (id : ℕ) (js : List Job) → All (λ x. (x.id == id) ≡ false) (filter (λ k. not (k.id == id)) js)
left_are_others id [] = tt
left_are_others id (x ∷ js) = grind (arith, common_steps, left_are_others id js)

-- kicking the first one and then the others is kicking all of them
kicked_in_turn : (j : Job) (chosen : List Job) → All (λ k. (k.id == j.id) ≡ false) chosen → (js : List Job)
    → all_kicked (j ∷ chosen) js ≡ all_kicked chosen (map (λ k. if k.id == j.id then kicked k else k) js)
kicked_in_turn j chosen others [] = refl
kicked_in_turn j chosen others (x ∷ js) =
    grind (arith, kicked_in_turn j chosen others js, list_any_not (λ k. k.id == j.id) chosen others)

-- the first one is kicked
pub kicks_first : (list : JobList) (tube : List ℕ) (low next : ℕ) (jobs : List Job) (j : Job)
    → ((k : Job) → is_listed list tube (kicked k) ≡ false) → AreIdsWithin low jobs next
    → first_in list tube jobs ≡ Some j
    → KicksFirst list tube jobs (map (λ k. if k.id == j.id then kicked k else k) jobs)
kicks_first list tube low next jobs j out ids first =
    let p = is_listed list tube in
    let before = is_before_by (list_rank list) in
    let others = filter (λ k. not (k.id == j.id)) (filter p jobs) in
    let found = chosen_has_its_id low next jobs p before j ids first in
    let passes = first_of_passes p before jobs j first in
    let least : All (λ x. p x ≡ true → before x j ≡ false) jobs =
    all_from_members _ jobs (λ x. first_of_is_least p (pair_order (list_rank list) (λ (k : Job). k.id)) jobs j x first) in
    let there = find_in_filter (λ k. k.id == j.id) p jobs
    (all_weaker _ _ jobs (λ x is same. ap p (is same) ∙ passes) (one_of_id j.id low next jobs j ids found)) in
    let ordered : jobs_of list tube jobs ≡ j ∷ in_order before others =
    first_ordered before j (λ x. pair_other (list_rank list j) j.id (list_rank list x) x.id) low next (filter p jobs)
    (ids_of_filter p low next jobs ids) (all_weaker _ _ _ (λ x h. h.0 h.1) (all_of_filter _ p jobs least)) (there ∙ found) in
    let left = kicked_are_out p j.id out jobs in
    record {
      jobs = grind (arith, kicked_in_turn, all_of_take, all_in_order, left_are_others);
      count = λ n. rw (ordered, left) refl;
    }

-- which jobs a kick makes ready
some_buried : (tube : List ℕ) (jobs js : List Job) → 0 < length js → in_order is_buried_before js ≡ kicked_first tube jobs js
some_buried tube jobs js h = grind (arith, common_steps)

pub kickable_buried : (tube : List ℕ) (jobs : List Job) (id : ℕ)
    → Some id ≡ option_map (λ j. j.id) (first_of (is_buried_in tube) is_buried_before jobs) → jobs_of Buried tube jobs ≡ kickable tube jobs
kickable_buried tube jobs id first =
    grind (arith, common_steps, cases_Bool, first_of_is_some (is_buried_in tube) is_buried_before jobs, some_buried, some_left)

-- without an id there is no job
pub no_id : (o : Option Job) → None ≡ option_map (λ j. j.id) o → o ≡ None
no_id o e = grind (arith, common_steps)

pub none_in_list : (list : JobList) (tube : List ℕ) (jobs : List Job)
    → None ≡ option_map (λ j. j.id) (first_in list tube jobs) → filter (is_listed list tube) jobs ≡ []
none_in_list list tube jobs none = search (none_left, first_of_none, no_id)

pub kickable_delayed : (tube : List ℕ) (jobs : List Job)
    → None ≡ option_map (λ j. j.id) (first_of (is_buried_in tube) is_buried_before jobs) → jobs_of Delayed tube jobs ≡ kickable tube jobs
kickable_delayed tube jobs none = ap (kicked_first tube jobs) (sym (none_in_list Buried tube jobs none))

pub none_kicked : (jobs : List Job) → all_kicked [] jobs ≡ jobs
none_kicked jobs = map-id jobs

-- Once none is left, all were kicked.
pub kicked_all : (list : JobList) (tube : List ℕ) (bound done : ℕ) (first jobs : List Job) → done ≤ bound
    → ((n : ℕ) → all_kicked (take (done + n) (jobs_of list tube first)) first ≡ all_kicked (take n (jobs_of list tube jobs)) jobs)
    → None ≡ option_map (λ j. j.id) (first_in list tube jobs)
    → all_kicked (take bound (jobs_of list tube first)) first ≡ jobs
kicked_all list tube bound done first jobs l in_turn none =
    let nothing : jobs_of list tube jobs ≡ [] = ap (in_order (is_before_by (list_rank list))) (none_in_list list tube jobs none) in
    let whole : bound ≡ done + (bound - done) = omega arith in
    ap (λ n. all_kicked (take n (jobs_of list tube first)) first) whole ∙ in_turn (bound - done)
    ∙ ap (λ ks. all_kicked ks jobs) (ap (take (bound - done)) nothing ∙ take-nil (bound - done)) ∙ none_kicked jobs

pub all_counted : (list : JobList) (tube : List ℕ) (bound done : ℕ) (first jobs : List Job) → done ≤ bound
    → ((n : ℕ) → length (take (done + n) (jobs_of list tube first)) ≡ done + length (take n (jobs_of list tube jobs)))
    → None ≡ option_map (λ j. j.id) (first_in list tube jobs)
    → done ≡ length (take bound (jobs_of list tube first))
all_counted list tube bound done first jobs l in_turn none = grind (arith, common_steps, none_in_list)
