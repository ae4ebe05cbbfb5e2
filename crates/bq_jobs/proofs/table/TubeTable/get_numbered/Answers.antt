use Rattle.std.proofs.Common.{arith}
use Rattle.std.proofs.lemmas.Option.{slice_get_read}
use Rattle.bq_jobs.proofs.FreeLemmas.{value_of_slot}
use Rattle.bq_jobs.proofs.TableViews.{slot_there, value_there}
use Rattle.bq_jobs.proofs.table.TubeTable.get_numbered.Goals as goal

pub returns : goal.returns
returns g c = grind (arith, slot_there, value_there, slice_get_read, value_of_slot c.self.inside.slots.items)
