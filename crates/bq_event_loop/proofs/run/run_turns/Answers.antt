use Rattle.bq_event_loop.proofs.run.run_turns.Goals as goal

pub returns-in-Ok-clause-headline : goal.returns-in-Ok-clause-headline
returns-in-Ok-clause-headline g c served = c.the_headline.ensures.jobs _ _ _ _ _ served.history.run

pub returns-in-Ok-clause-headline_so_far : goal.returns-in-Ok-clause-headline_so_far
returns-in-Ok-clause-headline_so_far g c so_far = c.the_headline.ensures.jobs _ _ _ _ _ so_far.history.run
