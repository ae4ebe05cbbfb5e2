use Rattle.bq_line.proofs.TendingLemmas.{tends_told}
use Rattle.bq_event_loop.proofs.still.rests.Goals as goal

pub returns-in-On-clause-trace : goal.returns-in-On-clause-trace
returns-in-On-clause-trace g c = search tends_told
