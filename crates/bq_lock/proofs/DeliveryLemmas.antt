-- Answers are put into the outboxes one after another.
use Rattle.std.proofs.lemmas.Grind.{common_steps}
use Rattle.std.proofs.Common.{◌≡◌, ℕ, ◌≤◌, List, [], ◌∷◌, ◌++◌, length, map, arith, append_assoc}
use Rattle.std.proofs.lemmas.List.{get_or_past, map-append}
use Rattle.bq_job.specs.declared.answer.Answer.{Answer}
use Rattle.bq_job.specs.machine.Dispatch.{GivenAnswer}
use Rattle.bq_job.proofs.OneClientLemmas.{answers_append}
use Rattle.bq_lock.specs.LockedState.{AreFew, outbox_at}
use Rattle.bq_lock.specs.LockedSteps.{AreDelivered}
use Rattle.bq_lock.proofs.LastPartLemmas.{last_then}

-- Of the given answers these are left, and the others are in the outboxes.
pub record IsDelivering (given : List GivenAnswer) (old : List (List Answer)) (left : List GivenAnswer) (answered : List ℕ)
    (new : List (List Answer)) : Type 0 where
  pub done : List GivenAnswer
  pub given_is : given ≡ done ++ left
  pub delivered : AreDelivered done old new
  pub answered_is : answered ≡ map (λ g. g.0) done

-- a seat that does not exist has an empty outbox
pub outbox_past : (outboxes : List (List Answer)) (seat : ℕ) → length outboxes ≤ seat → outbox_at seat outboxes ≡ []
outbox_past outboxes seat past = get_or_past outboxes seat [] past

pub few_delivered : (given : List GivenAnswer) (old new : List (List Answer)) → AreDelivered given old new → AreFew new
few_delivered given old new d seat = grind (arith, common_steps)

delivered_then : (done more : List GivenAnswer) (old next new : List (List Answer)) → AreDelivered done old next
    → AreDelivered more next new → AreDelivered (done ++ more) old new
delivered_then done more old next new a b = grind (arith, last_then, append_assoc, answers_append)

-- the next answer went into its outbox
pub delivering_one : (given : List GivenAnswer) (old : List (List Answer)) (g : GivenAnswer) (left rest : List GivenAnswer)
    (answered : List ℕ) (next new : List (List Answer))
    → IsDelivering given old left answered next → left ≡ g ∷ rest → AreDelivered (g ∷ []) next new
    → IsDelivering given old rest (answered ++ g.0 ∷ []) new
delivering_one given old g left rest answered next new d is one =
    grind (arith, map-append, append_assoc d.done (g ∷ []) rest, delivered_then d.done (g ∷ []) old next new d.delivered one)
