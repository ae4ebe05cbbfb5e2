use Rattle.bq_jobs.proofs.TableWalks.{first_told}
use Rattle.bq_jobs.proofs.table.TubeTable.first.Goals as goal

pub returns-clause-entry : goal.returns-clause-entry
returns-clause-entry g c =
    first_told c.self.inside.numbers.entries _ _ _ c.as_slice-slots.ensures.value c.self.view_is (g.T.Test.passed c.args.test.now) _ _
    c.valued.ensures c.first.ensures.entry
