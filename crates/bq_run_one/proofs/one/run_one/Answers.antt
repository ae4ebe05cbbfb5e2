use Rattle.bq_run_one.proofs.one.run_one.Goals as goal

pub returns-clause-headline : goal.returns-clause-headline
returns-clause-headline g c readings served = c.the_headline.ensures.jobs _ _ _ _ _ served.run
