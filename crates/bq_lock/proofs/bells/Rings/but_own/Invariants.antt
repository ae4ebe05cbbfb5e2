use Rattle.std.proofs.Common.{◌≡◌, take}
use Rattle.bq_lock.specs.Rung.{others}
use Rattle.bq_lock.proofs.bells.Rings.but_own.Given as goal

abbrev pub invariant-loop-place : goal.invariant-loop-place
invariant-loop-place l = l.few.items ≡ others l.fn.own (take l.place l.fn.seats)
