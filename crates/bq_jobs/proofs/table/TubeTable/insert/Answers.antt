use Rattle.std.proofs.Common.{◌≡◌, None, arith}
use Rattle.std.proofs.lemmas.List.{length-map}
use Rattle.bq_jobs.specs.FreeNumbers.{values_in}
use Rattle.bq_jobs.specs.Numbering.{number_of}
use Rattle.bq_jobs.specs.Table.{numbering_of}
use Rattle.bq_jobs.proofs.NumberingLemmas.{paired_to}
use Rattle.bq_jobs.proofs.TableLemmas.{are_lacking, inserted_at}
use Rattle.bq_jobs.proofs.TableViews.{absent_by, as_many, look, valued}
use Rattle.bq_jobs.proofs.table.TubeTable.insert.Goals as goal

pub returns-clause-paired : goal.returns-clause-paired
returns-clause-paired g c =
    let absent : number_of c.args.name.now (numbering_of c.self.inside.numbers.entries c.self.inside.slots.items)
    ≡ None = grind (arith, absent_by, look) in
    paired_to _ _ c.args.name.now c.in_ok-number.number c.self.invariant.0 absent c.in_ok-number.ensures.given
    (rw c.reserve.ensures.entries at c.insert.ensures.entries)

pub invariant_of-self-2 : goal.invariant_of-self-2
invariant_of-self-2 g c = (returns-clause-paired g c, c.give.ensures.chained)

pub returns-clause-entries : goal.returns-clause-entries
returns-clause-entries g c =
    let given = inserted_at c.args.name.now c.in_ok-number.number c.args.value (values_in c.self.inside.slots.items) in
    let lack = are_lacking (numbering_of c.self.inside.numbers.entries c.self.inside.slots.items) c.self.invariant.0 c.in_ok-number.number
    in
    grind (arith, given, valued, lack, as_many, length-map)
