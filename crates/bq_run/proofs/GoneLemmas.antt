-- An end whose Gone was taken has nothing waiting.
use Rattle.std.proofs.Common.{◌≡◌, ℕ, zero, suc, Bool, true, false, List, [], ◌∷◌, arith}
use Rattle.std.proofs.Common.{◌++◌, map, replicate, refl}
use Rattle.bq_job.specs.declared.answer.Answer.{Answer}
use Rattle.bq_job.specs.declared.request.Request.{Request}
use Rattle.bq_job.specs.declared.step.Step.{Step}
use Rattle.bq_job.specs.declared.step.Step.TheVariants as steps
use Rattle.bq_job.specs.promise.ControlDid.{IsControlDone}
use Rattle.bq_job.specs.promise.History.{LineOver}
use Rattle.bq_job.specs.promise.LineOwed.{IsLineOwed}
use Rattle.bq_job.specs.beside.SeatDid.{AreLinesServed, IsSeatDone}
use Rattle.bq_thread_work.specs.CoreWork.{HasGone}

abbrev is_gone : Step → Bool
is_gone steps.Gone = true
is_gone _ = false

-- none of these steps is Gone
abbrev pub IsGoneless : List Step → Type 0
IsGoneless [] = Unit {0}
IsGoneless (step ∷ more) = (is_gone step ≡ false) × IsGoneless more

goneless_both : (xs ys : List Step) → IsGoneless xs → IsGoneless ys → IsGoneless (xs ++ ys)
goneless_both [] ys h k = k
goneless_both (x ∷ xs) ys h k = (h.0, goneless_both xs ys h.1 k)

goneless_asks : (asked : List Request) → IsGoneless (map steps.Ask asked)
goneless_asks [] = tt
goneless_asks (request ∷ asked) = (refl, goneless_asks asked)

goneless_drains : (n : ℕ) → IsGoneless (replicate n steps.Drain)
goneless_drains zero = tt
goneless_drains (suc n) = (refl, goneless_drains n)

goneless_line : (size : ℕ) (line : LineOver) (own : List Step) (answers : List Answer) → IsLineOwed size line own answers → IsGoneless own
goneless_line size line own answers l = grind (arith, goneless_both, goneless_asks)

goneless_lines : (size : ℕ) (lines : List LineOver) (own : List Step) (taken : List Answer)
    → AreLinesServed size lines own taken → IsGoneless own
goneless_lines size [] own taken h = grind arith
goneless_lines size (line ∷ lines) own taken h =
    grind (arith, goneless_both, goneless_line size line h.0 h.4.own h.4.line_owed, goneless_lines size lines h.1 h.3 h.7)

-- An end submits Gone once, as its last step.
pub record EndsByGone (submitted : List Step) : Type 0 where
  pub own : List Step
  pub goneless : IsGoneless own
  pub submitted_is : submitted ≡ own ++ steps.Gone ∷ []

pub seat_ends_by_gone : (size : ℕ) (lines : List LineOver) (submitted : List Step) (taken : List Answer)
    → IsSeatDone size lines submitted taken → EndsByGone submitted
seat_ends_by_gone size lines submitted taken d = grind (arith, goneless_lines)

pub control_ends_by_gone : (text : List ℕ) (failed : Bool) (submitted : List Step) → IsControlDone text failed submitted
    → EndsByGone submitted
control_ends_by_gone text failed submitted d = grind (arith, goneless_drains)

behind_gone : (own before after waiting : List Step) → IsGoneless own
    → own ++ steps.Gone ∷ [] ≡ (before ++ steps.Gone ∷ after) ++ waiting → waiting ≡ []
behind_gone [] [] [] waiting g e = cc
behind_gone [] [] (x ∷ after) waiting g e = absurd cc
behind_gone [] (x ∷ []) after waiting g e = absurd cc
behind_gone [] (x ∷ y ∷ before) after waiting g e = absurd cc
behind_gone (o ∷ own) [] after waiting g e = grind arith
behind_gone (o ∷ own) (x ∷ before) after waiting g e =
    behind_gone own before after waiting g.1 (let rest : own ++ steps.Gone ∷ [] ≡ (before ++ steps.Gone ∷ after) ++ waiting = cc in rest)

-- If the core took these steps of the end, including Gone, no step of the end waits.
pub none_waits : (submitted taken waiting : List Step) → EndsByGone submitted → HasGone taken → submitted ≡ taken ++ waiting → waiting ≡ []
none_waits submitted taken waiting e gone is = grind (arith, behind_gone)
