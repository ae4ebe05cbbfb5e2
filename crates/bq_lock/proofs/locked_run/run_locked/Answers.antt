use Rattle.std.proofs.Common.{vec_len, arith}
use Rattle.bq_lock.proofs.FaultLemmas.{well_configured}
use Rattle.bq_lock.proofs.locked_run.run_locked.Goals as goal

pub returns-clause-bad_configuration : goal.returns-clause-bad_configuration
returns-clause-bad_configuration g c =
    well_configured _ c.args.config (vec_len c.args.doors) (λ e. absurd cc) (grind arith) (grind arith)
