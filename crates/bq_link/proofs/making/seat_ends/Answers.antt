use Rattle.std.proofs.Common.{arith}
use Rattle.std.proofs.lemmas.Grind.{common_steps}
use Rattle.bq_link.proofs.NewLemmas.{core_more, seats_more}
use Rattle.bq_link.proofs.making.seat_ends.Goals as goal

pub loop-number-preserved : goal.loop-number-preserved
loop-number-preserved g c = grind (arith, common_steps, core_more, seats_more)
