use Rattle.std.proofs.Common.{arith, rules}
use Rattle.bq_line.specs.Tending.{IsNewSeat}
use Rattle.std.proofs.lemmas.List.Elements.{All-push}
use Rattle.bq_host.proofs.seats.new_seats.Goals as goal

pub loop-preserved : goal.loop-preserved
loop-preserved g c = record {
  many = grind arith;
  new = rw c.push_reserved.ensures.items (All-push (IsNewSeat c.args.max_job_size) c.loop.all.items c.in-Ok-new.seat
      c.loop.invariant.new (search rules));
  room = grind arith;
  within = grind arith;
}
