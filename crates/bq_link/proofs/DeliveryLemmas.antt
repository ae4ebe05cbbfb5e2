-- Each operation on the intake keeps its rule.
use Rattle.std.proofs.Common.{◌≡◌, ℕ, ◌<◌, true, [], ◌∷◌, ◌++◌, arith}
use Rattle.std.proofs.Common.{refl, append_assoc}
use Rattle.std.proofs.lemmas.Grind.{common_steps}
use Rattle.crossbeam_queue.specs.Fifo.{Pushes, Pops, Learns}
use Rattle.bq_job.specs.declared.step.Step.{Step}
use Rattle.bq_link.specs.declared.ends.View.{View}
use Rattle.bq_link.specs.Delivery.{Delivers, WaitsOf, core_view}
use Rattle.bq_link.specs.Submissions.{Covers, MaySubmit, MayTake, Invariant, steps_of}
use Rattle.crossbeam_queue.proofs.Lists.{at_set}
use Rattle.bq_link.proofs.SubmissionLemmas.{below_at, below_push, covers_push, of_other, of_own}

pub begins : (was : Invariant) → was [] [] → Delivers was [] (core_view [] [] 0 ∷ [])
begins was start = record {
  core = 0;
  made = 0;
  owner = λ _. 0;
  history = [];
  taken = [];
  whole = refl;
  real = start;
  below = tt;
  passes = grind arith;
}

-- `number` is another name of the pass's number.
pub submits : (was : Invariant) (n pass : ℕ) (v : View) (number : ℕ) (step : Step) → v.submits ≡ true → v.number ≡ number
    → MaySubmit was n number step → Pushes (Delivers was) n pass v (number, step)
    (λ w. w ≡ record v { submitted = v.submitted ++ step ∷ [] })
submits was n pass v number step may is stays items views room h at =
    let mine = (h.passes pass v at).0 may in (
      record v { submitted = v.submitted ++ step ∷ [] },
      record {
        core = h.core;
        made = h.made;
        owner = h.owner;
        history = h.history ++ (number, step) ∷ [];
        taken = h.taken;
        whole = grind (arith, append_assoc);
        real = stays h.taken items room h.real;
        below = grind (arith, below_push);
        passes = λ j u e. grind (arith, common_steps, at_set, of_own, of_other, covers_push, h.passes j u);
      },
      refl,
    )

pub takes : (was : Invariant) (pass : ℕ) (v : View) → v.takes ≡ true → MayTake was
    → Pops (Delivers was) pass v (λ x w. (w ≡ record v { taken = v.taken ++ x ∷ [] }) × (x.0 < v.made))
takes was pass v may stays x items views h at =
    let mine = (h.passes pass v at).1 may in (
      record v { taken = v.taken ++ x ∷ [] },
      record {
        core = h.core;
        made = h.made;
        owner = h.owner;
        history = h.history;
        taken = h.taken ++ x ∷ [];
        whole = grind (arith, append_assoc);
        real = stays h.taken items x h.real;
        below = h.below;
        passes = λ j u e. grind (arith, common_steps, at_set, h.passes j u);
      },
      (refl, grind (arith, below_at h.made h.taken items x)),
    )

-- if the intake is full
pub waits : (was : Invariant) (pass : ℕ) (v : View) → v.submits ≡ true → Learns (Delivers was) pass v (WaitsOf was v)
waits was pass v may items views h at = grind (arith, h.passes pass v at)

-- if the intake is empty
pub covered : (was : Invariant) (pass : ℕ) (v : View) → v.takes ≡ true
    → Learns (Delivers was) pass v (λ items. was v.taken items × Covers (v.taken ++ items) v.told)
covered was pass v may items views h at = grind (arith, h.passes pass v at)

pub compares : (was : Invariant) (pass : ℕ) (v : View) → v.takes ≡ true → v.submits ≡ true
    → Learns (Delivers was) pass v (λ items. was v.taken items × (steps_of v.number (v.taken ++ items) ≡ v.submitted))
compares was pass v may and items views h at = grind (arith, h.passes pass v at)
