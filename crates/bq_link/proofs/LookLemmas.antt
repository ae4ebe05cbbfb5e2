-- No refusal is possible if no call met a full intake, and no empty result if none met an empty
-- one.
use Rattle.std.proofs.Common.{ℕ, List, append_assoc, arith}
use Rattle.std.proofs.lemmas.Grind.{common_steps}
use Rattle.std.proofs.lemmas.List.{length-append}
use Rattle.bq_job.specs.declared.step.Step.{Step}
use Rattle.bq_link.specs.EndStates.{SeatState}
use Rattle.bq_link.specs.Looks.{TellsNoRefusal, TellsNoneEmpty}
use Rattle.bq_link.proofs.SubmissionLemmas.{of_own}

pub no_refusal : (places : ℕ) (seat : SeatState) → TellsNoRefusal places seat
no_refusal places seat = grind (arith, common_steps, append_assoc, of_own, length-append)

pub none_empty : (all : List (ℕ × Step)) → TellsNoneEmpty all
none_empty all = grind (arith, common_steps, length-append)
