use Rattle.std.proofs.Common.{arith, take-add}
use Rattle.std.proofs.lemmas.Grind.{common_steps}
use Rattle.bq_line.proofs.WritingLemmas.{stops, take_begins}
use Rattle.bq_line.proofs.buffers.write_rest.Goals as goal

pub returns-then-count-eq0-clause-text : goal.returns-then-count-eq0-clause-text
returns-then-count-eq0-clause-text g c = grind (arith, take_begins)

pub loop-done-preserved : goal.loop-done-preserved
loop-done-preserved g c = grind (arith, take-add, common_steps)

pub returns-in-Err-clause-text : goal.returns-in-Err-clause-text
returns-in-Err-clause-text g c = grind (arith, stops)
