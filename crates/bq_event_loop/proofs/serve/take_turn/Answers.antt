use Rattle.bq_event_loop.proofs.ServingLemmas.{loop_control, loop_serves, serves_time}
use Rattle.bq_event_loop.proofs.serve.take_turn.Goals as goal

pub returns-in-Control-clause-served : goal.returns-in-Control-clause-served
returns-in-Control-clause-served g c = loop_control c.requires.ready.2 c.serve_control.ensures

pub returns-else-is_over-clause-served : goal.returns-else-is_over-clause-served
returns-else-is_over-clause-served g c = loop_serves (serves_time 0 c.pass_time-news.ensures.trace.1)
