use Rattle.bq_core.proofs.FiredTimerLemmas.{seat_warned}
use Rattle.bq_core.proofs.waits.is_deadline_soon.Goals as goal

pub returns-clause-soon : goal.returns-clause-soon
returns-clause-soon c = seat_warned c.args.seat c.args.moment c.args.store.now.jobs.jobs _ _ c.is_soon.ensures c.first_held.ensures.rank
