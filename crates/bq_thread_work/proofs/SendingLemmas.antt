-- Answers are sent one after another, or kept.
use Rattle.std.proofs.Common.{arith, ◌≡◌, ◌≢◌, ℕ, List, [], ◌∷◌, ◌++◌, append-nil, append_assoc}
use Rattle.std.proofs.lemmas.{Bool.{cases_Bool, eqb-true, eqb-false}, Grind.common_steps}
use Rattle.bq_job.specs.declared.answer.Answer.{Answer}
use Rattle.bq_job.specs.machine.Dispatch.{GivenAnswer}
use Rattle.bq_job.specs.promise.Runs.{answers_to}
use Rattle.bq_job.proofs.OneClientLemmas.{answers_append}
use Rattle.bq_link.specs.EndStates.{CoreState, room_for, sent_to}
use Rattle.bq_link.specs.EndChanges.{with_room, with_sent}
use Rattle.bq_thread_work.specs.Sending.{AreSent}
use Rattle.bq_thread_work.specs.declared.core_work.sender.Sender.{Sender}

-- with other answers after them
pub sent_before : (a b : CoreState) (xs ys more : List GivenAnswer) → AreSent a xs b ys → AreSent a (xs ++ more) b (ys ++ more)
sent_before a b xs ys more h = grind (arith, answers_append, append_assoc)

-- the next answer was sent or kept, and the others follow
pub sent_next : (first a b : CoreState) (all kept left rest new : List GivenAnswer) (g : GivenAnswer) → AreSent first all a (kept ++ left)
    → left ≡ g ∷ rest → AreSent a (kept ++ g ∷ []) b new → AreSent first all b (new ++ rest)
sent_next first a b all kept left rest new g so_far is h =
    grind (arith, append_assoc kept (g ∷ []) rest, sent_before a b (kept ++ g ∷ []) new rest h)

-- the answer of another end
pub to_other : (seat t : ℕ) (answer : Answer) → seat ≢ t → answers_to t ((seat, answer) ∷ []) ≡ []
to_other seat t answer other = grind (arith, common_steps, cases_Bool, eqb-true)

to_own : (seat : ℕ) (answer : Answer) → answers_to seat ((seat, answer) ∷ []) ≡ answer ∷ []
to_own seat answer = grind (arith, common_steps)

-- the answers sent to another end
sent_else : (old new : CoreState) (seat t : ℕ) (answer : Answer) → new ≡ with_room (with_sent old seat answer) seat (room_for new seat)
    → t ≢ seat → sent_to new t ≡ sent_to old t
sent_else old new seat t answer is other = grind (arith, common_steps)

-- an answer is sent if none is kept for its end
pub sent_now : (old mid : Sender) (new : CoreState) (seat : ℕ) (answer : Answer)
    → mid ≡ record old { end = mid.end } → AreSent old.end old.kept.items mid.end old.kept.items
    → new ≡ with_room (with_sent mid.end seat answer) seat (room_for new seat) → sent_to new seat ≡ sent_to mid.end seat ++ answer ∷ []
    → answers_to seat old.kept.items ≡ [] → AreSent old.end (old.kept.items ++ (seat, answer) ∷ []) new mid.kept.items
sent_now old mid new seat answer e unsent is to none =
    grind (arith, eqb-true, eqb-false, answers_append, to_own, append-nil, sent_else, to_other)

-- an answer is kept after the rings were looked at
pub sent_kept : (old mid : Sender) (seat : ℕ) (answer : Answer) (last : List GivenAnswer) → mid ≡ record old { end = mid.end }
    → last ≡ mid.kept.items ++ (seat, answer) ∷ [] → AreSent old.end old.kept.items mid.end old.kept.items
    → AreSent old.end (old.kept.items ++ (seat, answer) ∷ []) mid.end last
sent_kept old mid seat answer last e is unsent =
    grind (arith, sent_before old.end mid.end old.kept.items old.kept.items ((seat, answer) ∷ []) unsent)
