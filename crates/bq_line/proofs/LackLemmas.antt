-- What is known of the link if an action moved nothing.
use Rattle.std.proofs.Common.{◌≡◌, arith}
use Rattle.bq_job.specs.declared.step.Step.{Step}
use Rattle.bq_line.specs.Lacking.{LacksAt}
use Rattle.bq_line.specs.declared.attendant.SeatPhase.{SeatPhase}
use Rattle.bq_line.specs.declared.attendant.Progress.{Progress}
use Rattle.bq_line.specs.declared.attendant.Progress.TheVariants as results

module _ {K : Type 0} (refused : K → Step → K → Type 0) (had_none : K → K → Type 0) (old new : K) where
  pub was_refused_at : {L : Type 0} (result : Progress) (phase : SeatPhase L) → LacksAt refused had_none result old phase new
      → result ≡ results.NotAccepted → (step : Step) × refused old step new
  was_refused_at result phase h2 h3 = grind arith
