-- An answer is put into the mail of a seat, or taken out of it.
use Rattle.std.proofs.Common.{◌≡◌, ℕ, ◌<◌, Bool, List, [], ◌∷◌, ◌++◌, arith, length, slice_set}
use Rattle.std.specs.Prelude.{slice_index_or}
use Rattle.std.proofs.lemmas.{Bool.{eq-eqb, eqb-true, eqb-false}, Grind.common_steps}
use Rattle.std.proofs.lemmas.List.{length-set}
use Rattle.bq_job.specs.declared.answer.Answer.{Answer}
use Rattle.bq_job.specs.machine.Dispatch.{GivenAnswer}
use Rattle.bq_host.specs.{MailStates.{MailState}, Traces.SeatTrace}
use Rattle.bq_host.proofs.{TimedRunLemmas.ran_none, TraceLemmas.{only, seat_took}}

-- the seat took its oldest answer
pub seat_takes : (d : MailState) (seat i : ℕ) (old rest taken : List Answer) → i ≡ seat → i < length d.mails
    → old ≡ slice_index_or d.mails i old → old ≡ taken ++ rest
    → SeatTrace seat d [] [] taken (record d { mails = slice_set d.mails i rest })
seat_takes d seat i old rest taken same below at is = grind (arith, common_steps, seat_took, ran_none, length-set, only)

-- A seat whose mail is empty took the oldest pending answer, which was its own.
pub seat_takes_pending : (d : MailState) (seat : ℕ) (answer : Answer) (rest : List GivenAnswer) (delivered : Bool)
    → slice_index_or d.mails seat [] ≡ [] → d.pending ≡ (seat, answer) ∷ rest
    → SeatTrace seat d [] [] (answer ∷ []) (record d { pending = rest; delivered = delivered })
seat_takes_pending d seat answer rest delivered empty pending =
    grind (arith, common_steps, seat_took, ran_none, only, eqb-true, eq-eqb, eqb-false)
