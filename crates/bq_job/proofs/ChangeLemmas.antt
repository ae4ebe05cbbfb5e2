-- What a command does to the list of jobs, and the happenings that are recorded.
use Rattle.std.proofs.Common.{ℕ, suc, ◌≡◌, Bool, true, false, not, cond, List, [], ◌∷◌, ◌++◌, map}
use Rattle.std.proofs.Common.{arith, refl, sym, ap, ◌∙◌, subst, Option, Some, None, rules}
use Rattle.std.proofs.lemmas.Bool.{or_left, or_right, or_cases, both_ways, cond_both, eqb-true, eq-eqb, false_from_ne_true, cases_Bool}
use Rattle.std.proofs.{Common.map-id, lemmas.{Grind.common_steps, List.Folds.list_any-append}}
use Rattle.std.specs.Prelude.{filter, flat_map, is_none, option_map, ◌==◌}
use Rattle.std.specs.List.{AllByRecursion as All, Contains, list_any}
use Rattle.bq_job.specs.{beside.AreIdsWithin, laws.{change, change_or_removal, changes, deleted, disturbs}}
use Rattle.bq_job.specs.{laws.removed, machine.{is_full, is_ready}}
use Rattle.bq_job.specs.{machine.{job_with, Machine.Machine}, Types.{Job, Step}}
use Rattle.bq_job.proofs.JobMoves.{Fate, GoesOnAs, Move, quiet, is_plain}
use Rattle.bq_job.proofs.ListLemmas.{all_from_members, all_of_append, all_of_filter, all_of_map, all_weaker, list_any_with}
use Rattle.bq_job.proofs.LookupLemmas.{found_job, job_found, job_in_map, job_in_more, job_in_rest}

-- The command makes `k` of the job `j`, as far as what is recorded does not disturb it.
abbrev pub Becomes : Step → Job → Job → Type 0
Becomes what j k = GoesOnAs j.id j k (change what j.id j.state k.state)

pub becomes_itself : (what : Step) (j : Job) → Becomes what j j
becomes_itself what j = record { same = refl; tube = refl; body = refl; ready = λ h still. (h, refl); held = λ h still. h }

-- the jobs and the next id before and after a command: jobs changed, one was removed, or one was
-- added within the limit
pub data JobsAfter (what : Step) (limit : Option ℕ) (jobs : List Job) (next : ℕ) (later : List Job) (next_then : ℕ) : Type 0 where
  changed : (f : Job → Job) → later ≡ map f jobs → next_then ≡ next → ((j : Job) → (f j).id ≡ j.id)
      → ((j : Job) → Contains jobs j → Becomes what j (f j)) → JobsAfter what limit jobs next later next_then
  removed_one : (id : ℕ) → removed what id ≡ deleted id ∷ [] → later ≡ filter (λ k. not (k.id == id)) jobs → next_then ≡ next
      → JobsAfter what limit jobs next later next_then
  added : (j : Job) → later ≡ jobs ++ j ∷ [] → next_then ≡ suc next → j.id ≡ next → (j.delay ≡ 0 → is_ready j ≡ true)
      → is_full limit jobs ≡ false → JobsAfter what limit jobs next later next_then

pub unchanged : (what : Step) (limit : Option ℕ) (jobs : List Job) (next : ℕ) → JobsAfter what limit jobs next jobs next
unchanged what limit jobs next = changed (λ j. j) (sym (map-id jobs)) refl (λ j. refl) (λ j i. becomes_itself what j)

any_in_parts : {X Y : Type 0} (p : Y → Bool) (g : X → List Y) (xs : List X) → list_any (λ x. list_any p (g x)) xs ≡ true
    → list_any p (flat_map g xs) ≡ true
any_in_parts p g [] h = h
any_in_parts p g (x ∷ xs) h = grind (arith, list_any-append, or_cases, or_left, or_right, any_in_parts p g xs)

plain_change_or_removal : (what : Step) (j : Job) (o : Option Job) → All (λ h. is_plain h ≡ true) (change_or_removal what j o)
plain_change_or_removal what j o = grind (arith, common_steps, cases_Bool)

all_of_parts : {X Y : Type 0} (P : Y → Type 0) (g : X → List Y) (xs : List X) → ((x : X) → All P (g x)) → All P (flat_map g xs)
all_of_parts P g [] h = tt
all_of_parts P g (x ∷ xs) h = all_of_append P (g x) (flat_map g xs) (h x) (all_of_parts P g xs h)

none_kept : {X : Type 0} (p : X → Bool) (xs : List X) → All (λ x. p x ≡ false) xs → filter p xs ≡ []
none_kept p [] h = refl
none_kept p (x ∷ xs) h = rw h.0 (none_kept p xs h.1)

last_kept : {X : Type 0} (p : X → Bool) (xs : List X) (x : X) → All (λ x. p x ≡ false) xs → p x ≡ true → filter p (xs ++ x ∷ []) ≡ x ∷ []
last_kept p xs x h i = grind (arith, common_steps, none_kept)

none_of_parts : {X Y : Type 0} (g : X → List Y) (xs : List X) → All (λ x. g x ≡ []) xs → flat_map g xs ≡ []
none_of_parts g [] h = refl
none_of_parts g (x ∷ xs) h = rw (h.0, none_of_parts g xs h.1) refl

-- each job of the list existed before
were_there : (jobs : List Job) (next : ℕ) → AreIdsWithin 1 jobs next → All (λ j. is_none (job_with j.id jobs) ≡ false) jobs
were_there jobs next ids = grind (arith, common_steps, all_from_members, job_found)

-- If no job is new, only plain happenings are recorded.
plain_changes : (what : Step) (before after : List Job) → All (λ j. is_none (job_with j.id before) ≡ false) after
    → All (λ h. is_plain h ≡ true) (changes what before after)
plain_changes what before after old = search (rules, all_of_append, all_of_parts, plain_change_or_removal, none_kept)

none_at : (low next : ℕ) (jobs : List Job) → AreIdsWithin low jobs next → job_with next jobs ≡ None
none_at low next [] h = refl
none_at low next (j ∷ jobs) h =
    let less = (job_found low next (j ∷ jobs) j h (0, omega arith, refl)).1 in
    grind (arith, none_at (suc j.id) next jobs h.1)

-- the fate of a job that a command changed
changed_fate : (what : Step) (before after : List Job) (f : Job → Job) (id : ℕ) (o : Option Job) → job_with id before ≡ o
    → job_with id after ≡ option_map f o → ((j : Job) → Contains before j → Becomes what j (f j))
    → Fate id (changes what before after) o (option_map f o)
changed_fate what before after f id None e g becomes = refl
changed_fate what before after f id (Some j) e g becomes =
    let found = found_job id before j e in
    let b = becomes j found.1 in
    let here : job_with j.id after ≡ Some (f j) = subst (λ n. job_with n after ≡ Some (f j)) (sym found.0) g in
    let disturbed : list_any (disturbs j.id) (change what j.id j.state (f j).state) ≡ true
    → list_any (disturbs id) (changes what before after) ≡ true =
    grind (arith, common_steps, list_any-append, or_left, any_in_parts, list_any_with) in
    let still = λ (none : list_any (disturbs id) (changes what before after) ≡ false).
    false_from_ne_true _ (λ d. both_ways _ none (disturbed d)) in
    record { same = b.same; tube = b.tube; body = b.body; ready = λ h none. b.ready h (still none); held = λ h none. b.held h (still none) }

removed_fate : (what : Step) (before after : List Job) (gone id : ℕ) (o : Option Job) → removed what gone ≡ deleted gone ∷ []
    → job_with id before ≡ o → job_with id after ≡ cond (id == gone) None o
    → Fate id (changes what before after) o (cond (id == gone) None o)
removed_fate what before after gone id o told e g =
    grind (arith, common_steps, cond_both, id, found_job, list_any-append, any_in_parts, list_any_with, eqb-true, or_left, eq-eqb)

-- A command is a move: a quiet one, or a put.
pub move_of_jobs : (what : Step) (m n : Machine) → AreIdsWithin 1 m.jobs m.next_id
    → JobsAfter what m.settings.max_jobs m.jobs m.next_id n.jobs n.next_id → Move m (changes what m.jobs n.jobs) n
move_of_jobs what m n ids (changed f after next same becomes) =
    let lookup : (id : ℕ) → job_with id n.jobs ≡ option_map f (job_with id m.jobs) =
    λ id. ap (job_with id) after ∙ job_in_map f id m.jobs same in
    quiet (record {
      next = next;
      plain = plain_changes what m.jobs n.jobs
          (rw after (all_of_map _ f m.jobs (all_weaker _ _ m.jobs (λ j h. rw same h) (were_there m.jobs m.next_id ids))));
      fates = grind (arith, changed_fate);
    })
move_of_jobs what m n ids (removed_one gone told after next) =
    grind (arith, common_steps, job_in_rest, quiet, plain_changes, all_weaker, all_of_filter, were_there, removed_fate)
move_of_jobs what m n ids (added j after next is at_once free) =
    let silent : All (λ k. change_or_removal what k (job_with k.id n.jobs) ≡ []) m.jobs =
    all_from_members (λ k. change_or_removal what k (job_with k.id n.jobs) ≡ []) m.jobs (λ k i.
    let found = job_found 1 m.next_id m.jobs k ids i in
    grind (arith, common_steps, cases_Bool, job_in_more, eqb-true, false_from_ne_true)) in
    grind (arith, last_kept, were_there, none_at, none_of_parts)
