use Rattle.bq_cli.proofs.BeginLemmas.{left_of_new, status_from}
use Rattle.bq_cli.proofs.watched.listen_and_serve.Goals as goal

pub returns-in-Ok-serve_begun-clause-status : goal.returns-in-Ok-serve_begun-clause-status
returns-in-Ok-serve_begun-clause-status g c =
    let made = c.in-Ok-new.ensures in
    let left = left_of_new g.I.Read.remaining c.in-Ok-new.control c.args.input made.inner made.empty made.capacity in
    status_from c.from.ensures left c.in-Ok-serve_begun.ensures
