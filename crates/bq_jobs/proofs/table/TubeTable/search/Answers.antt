use Rattle.std.proofs.Common.{Some, sym}
use Rattle.bq_jobs.proofs.NumberingLemmas.{number_few}
use Rattle.bq_jobs.proofs.table.TubeTable.search.Goals as goal

pub of-requires : goal.of-requires
of-requires g c =
    number_few _ c.args.name.now (Some c.in-Some.number.now) c.self.invariant.0 (rw c.in-Some.is at (sym c.peek.ensures.value))
