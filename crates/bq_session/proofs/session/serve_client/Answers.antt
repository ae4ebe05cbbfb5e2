use Rattle.bq_session.proofs.session.serve_client.Goals as goal

pub returns-in-Ok-clause-over : goal.returns-in-Ok-clause-over
returns-in-Ok-clause-over g c = c.in-Ok.ensures.stays _ c.new-line.ensures.over
