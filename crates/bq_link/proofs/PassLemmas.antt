-- Passes are made, joined and split under the rule of the intake.
use Rattle.std.proofs.Common.{◌≡◌, ℕ, ◌+◌, ◌==◌, zero, suc, ◌⊎◌, inl, true, false, List, [], ◌∷◌, ◌++◌, length, set, if◌then◌else◌, arith}
use Rattle.std.proofs.lemmas.Grind.{common_steps}
use Rattle.std.proofs.lemmas.List.{append-nil}
use mathlib.Core.Option.{some}
use lib.ListN.{get_elem?}
use Rattle.crossbeam_queue.specs.Fifo.{Forks, Merges}
use Rattle.crossbeam_queue.proofs.Lists.{at_set}
use Rattle.bq_job.specs.declared.step.Step.{Step}
use Rattle.bq_link.specs.declared.ends.View.{View}
use Rattle.bq_link.specs.Delivery.{Delivers, IsPass, blank_view, seat_view}
use Rattle.bq_link.specs.Submissions.{AreBelow, Invariant}
use Rattle.bq_link.proofs.SubmissionLemmas.{below_more, of_none}

-- one view is added
at_new : (views : List View) (v u : View) (j : ℕ) → get_elem? (views ++ v ∷ []) j ≡ some u
    → (get_elem? views j ≡ some u) ⊎ ((j ≡ length views) × (v ≡ u))
at_new [] v u j e = grind (arith, common_steps)
at_new (x ∷ xs) v u zero e = inl e
at_new (x ∷ xs) v u (suc j) e = grind (arith, at_new xs v u j e)

-- a number is given to a pass
abbrev given : (ℕ → ℕ) → ℕ → ℕ → ℕ → ℕ
given owner number pass n = if n == number then pass else owner n

-- The same steps are submitted and taken, while passes and numbers change.
again : {was : Invariant} {items : List (ℕ × Step)} {views : List View} (h : Delivers was items views) (made : ℕ) (owner : ℕ → ℕ)
    (next : List View) → AreBelow made h.history
    → ((pass : ℕ) (v : View) → get_elem? next pass ≡ some v → IsPass h.core made owner h.history h.taken pass v)
    → Delivers was items next
again h made owner next below passes = record {
  core = h.core;
  made = made;
  owner = owner;
  history = h.history;
  taken = h.taken;
  whole = h.whole;
  real = h.real;
  below = below;
  passes = passes;
}

-- a pass that permits nothing
pub blanks : (was : Invariant) (pass : ℕ) (v : View) → Forks (Delivers was) pass v v blank_view
blanks was pass v items views h at =
    again h h.made h.owner (set views pass v ++ blank_view ∷ []) h.below (λ j u e. grind (arith, at_new, at_set, h.passes j u))

-- the next end
pub makes : (was : Invariant) (pass : ℕ) (v : View) → v.takes ≡ true
    → Forks (Delivers was) pass v (record v { made = v.made + 1 }) (seat_view v.made [])
makes was pass v may items views h at =
    let left : View = record v { made = v.made + 1 } in
    let mine = (h.passes pass v at).1 may in
    again h (v.made + 1) (given h.owner v.made (length (set views pass left))) (set views pass left ++ seat_view v.made [] ∷ [])
    (grind (arith, below_more)) (λ j u e. grind (arith, common_steps, at_new, at_set, of_none, h.passes j u))

-- the core's pass absorbs that of an end
pub joins : (was : Invariant) (pass : ℕ) (v : View) (other : ℕ) (w : View) → v.takes ≡ true → w.submits ≡ true
    → Merges (Delivers was) pass v other w (record v {
      submits = true;
      number = w.number;
      submitted = w.submitted;
      told = (w.number, w.submitted) ∷ v.told;
    }) blank_view
joins was pass v other w may and items views h at two at' =
    let both : View = record v { submits = true; number = w.number; submitted = w.submitted; told = (w.number, w.submitted) ∷ v.told } in
    let before : get_elem? views other ≡ some w = grind (arith, at_set) in
    let mine = (h.passes pass v at).1 may in
    let theirs = (h.passes other w before).0 and in
    again h h.made (given h.owner w.number pass) (set (set views pass both) other blank_view) h.below
    (λ j u e. grind (arith, common_steps, at_set, append-nil, h.passes j u))

-- and splits it off again
pub parts : (was : Invariant) (pass : ℕ) (v : View) → v.takes ≡ true → v.submits ≡ true
    → Forks (Delivers was) pass v (record v { submits = false }) (seat_view v.number v.submitted)
parts was pass v may and items views h at =
    let left : View = record v { submits = false } in
    let own = h.passes pass v at in
    again h h.made (given h.owner v.number (length (set views pass left))) (set views pass left ++ seat_view v.number v.submitted ∷ [])
    h.below
    (λ j u e. grind (arith, common_steps, at_new, at_set, h.passes j u))
