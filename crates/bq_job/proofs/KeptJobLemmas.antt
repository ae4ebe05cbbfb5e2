-- A job is present from its put until its deletion, and at most one client holds it.
use Rattle.std.proofs.Common.{◌++◌, ◌<◌, ◌∷◌, ◌≡◌, ◌⊎◌, List, Some, [], append-nil, arith, false, inl, inr}
use Rattle.std.proofs.lemmas.Bool.{cond_both}
use Rattle.std.proofs.lemmas.{Grind.common_steps}
use Rattle.std.specs.List.{Contains, list_any}
use Rattle.bq_job.specs.machine.{Settings, job_with, Machine.Machine}
use Rattle.bq_job.specs.laws.{Happening, IsHeldByOne, IsKept, Part, happenings, is_deletion, parts_of_run, put}
use Rattle.bq_job.specs.{machine.new_machine, promise.{GoesBy, Transition}, Types.Job}
use Rattle.bq_job.proofs.{JobMoves.{Goes, Move, goes_then, handing, moves, putting, quiet, stops}, KeptLemmas.{Keeps, kept_of_lawful}}
use Rattle.bq_job.proofs.{LawfulLemmas.new_is_lawful, ListLemmas.{none_in_parts}, LookupLemmas.found_job}
use Rattle.bq_job.proofs.{LookupLemmas.{job_at_end, job_found}, OrderLemmas.{handed_lookup, put_behind, put_lookup}}
use Rattle.bq_job.proofs.{OrderLemmas.{put_now_or_behind, puts}, StepMoves.{ArePartsGone, always, run_gone}}

-- The job is present, in its tube and with its body.
pub record IsThere (j : Job) (m : Machine) : Type 0 where
  pub job : Job
  pub found : job_with j.id m.jobs ≡ Some job
  pub below : j.id < m.next_id
  pub tube : job.tube ≡ j.tube
  pub body : job.body ≡ j.body

there_after : (j : Job) (m n : Machine) (happened : List Happening) → Move m happened n → list_any (is_deletion j.id) happened ≡ false
    → IsThere j m → IsThere j n
there_after j m n happened (quiet q) none h = grind (arith, common_steps)
there_after j m n happened (putting p) none h = grind (arith, put_lookup j.id m n happened p)
there_after j m n happened (handing g) none h = grind (arith, common_steps, handed_lookup j.id m n happened g, cond_both)

-- present now, or put by a move to come
there_or_to_come : (j : Job) (m n : Machine) (happened more : List Happening) → Move m happened n
    → list_any (is_deletion j.id) happened ≡ false → IsThere j m ⊎ Contains (happened ++ more) (put j) → IsThere j n ⊎ Contains more (put j)
there_or_to_come j m n happened more move none (inl h) = inl (there_after j m n happened move none h)
there_or_to_come j m n happened more move none (inr i) = elim (puts j.id m n happened move) [
  | inl behind ↦ inr (put_behind j happened more behind i)
  | inr (p, e) ↦ grind (arith, common_steps, put_now_or_behind, job_at_end)
]

there_at_end : (j : Job) {m n : Machine} {happened : List Happening} → Goes m happened n → list_any (is_deletion j.id) happened ≡ false
    → IsThere j m ⊎ Contains happened (put j) → IsThere j n
there_at_end j stops none h = grind arith
there_at_end j {m} (moves k xs ys move rest) none h =
    let each = none_in_parts (is_deletion j.id) xs ys none in
    there_at_end j rest each.1 (there_or_to_come j m k xs ys move each.0 h)

-- the run up to and including this part
goes_to : (m n : Machine) (early late : List Part) (p : Part) → ArePartsGone m (early ++ p ∷ late) n
    → Goes m (happenings (early ++ p ∷ [])) p.machine × Keeps p.machine
goes_to m n [] late p h = (rw append-nil h.0.goes, h.0.keeps)
goes_to m n (q ∷ early) late p h =
    let rest = goes_to q.machine n early late p h.1 in (goes_then m q.machine p.machine q.happened _ h.0.goes rest.0, rest.1)

pub accepted_is_kept : (settings : Settings) (taken : List Transition) (last : Machine) (early late : List Part) (p : Part) (j : Job)
    → GoesBy (new_machine settings) taken last
    → parts_of_run taken ≡ early ++ p ∷ late → Contains (happenings (early ++ p ∷ [])) (put j)
    → list_any (is_deletion j.id) (happenings (early ++ p ∷ [])) ≡ false → IsKept j p.machine
accepted_is_kept settings taken last early late p j goes split accepted none =
    let m = new_machine settings in
    let g = goes_to m last early late p (rw split at (run_gone m taken last (new_is_lawful settings) goes)) in
    let t = there_at_end j g.0 none (inr accepted) in
    let found = found_job j.id p.machine.jobs t.job t.found in
    record {
      job = t.job;
      there = found.1;
      id_is = found.0;
      tube_is = t.tube;
      body_is = t.body;
      alone = λ k i e. let f = job_found 1 p.machine.next_id p.machine.jobs k g.1.ids i in grind arith;
    }

pub held_by_one_always : (settings : Settings) (taken : List Transition) (last : Machine) (p : Part)
    → GoesBy (new_machine settings) taken last → Contains (parts_of_run taken) p → IsHeldByOne p.machine
held_by_one_always settings taken last p goes i seat other id h k =
    let keeps = always Keeps (λ m p g keeps. g.keeps) settings taken last p (kept_of_lawful _ (new_is_lawful settings)) goes i in
    grind (arith, common_steps, job_found 1 p.machine.next_id p.machine.jobs h.0 keeps.ids h.1, job_found)
