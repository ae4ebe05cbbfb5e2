use Rattle.bq_cli.proofs.server.serve_doors_by_loop.Goals as goal

pub returns-clause-so_far : goal.returns-clause-so_far
returns-clause-so_far g c = rw c.config_of.ensures at c.run_turns.ensures.so_far
