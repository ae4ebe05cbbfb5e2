use Rattle.bq_jobs.proofs.TableWalks.{from_told}
use Rattle.bq_jobs.proofs.table.TubeTable.first_from.Goals as goal

pub returns : goal.returns
returns g c =
    from_told c.self.inside.numbers.entries _ _ _ c.as_slice-slots.ensures.value c.self.view_is (g.T.Test.passed c.args.test.now) _ _
    c.valued.ensures c.args.from.now c.first_from.ensures
