use Rattle.bq_core.proofs.statistics_acts.stats.Goals as goal

pub returns-in-Ok : goal.returns-in-Ok
returns-in-Ok c = rw (c.set_answer.ensures, c.in-Ok.ensures _ c.server_numbers.ensures)
