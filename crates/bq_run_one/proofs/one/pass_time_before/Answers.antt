use Rattle.bq_host.proofs.HubLemmas.{trace_none}
use Rattle.bq_run_one.proofs.one.pass_time_before.Goals as goal

pub returns-else-matches-clause-trace : goal.returns-else-matches-clause-trace
returns-else-matches-clause-trace g c = trace_none g.K.QueueCore g.C.Clock 0 c.args.hub.now
