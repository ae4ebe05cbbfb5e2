use Rattle.bq_line.proofs.ToldLemmas.{tells_drain_if}
use Rattle.bq_line.proofs.control_steps.ControlSteps.note_submitted.Goals as goal

pub returns-then-self : goal.returns-then-self
returns-then-self g c = search tells_drain_if
