use Rattle.std.proofs.Common.{arith}
use Rattle.bq_line.specs.Tending.{IsNewDoor}
use Rattle.bq_host.proofs.ListLemmas.{all_pushed}
use Rattle.bq_cli.specs.Servers.{IsDoorAt, TcpDoor}
use Rattle.bq_cli.proofs.server.new_doors.Goals as goal

IsNew : {R : Type 0} → TcpDoor R → Type 0
IsNew d = IsNewDoor (record { is_out = d.is_out; is_at_end = d.is_at_end; lines_over = d.over })

pub loop-preserved : goal.loop-preserved
unfolding IsNew
loop-preserved g c =
    let i = c.loop.invariant in
    let new = all_pushed _ _ _ IsNew c.push_reserved.ensures.items i.new c.new_door-door.ensures.new in
    let at = all_pushed _ _ _ (λ d. IsDoorAt c.args.listener.now c.args.options.now.sessions d) c.push_reserved.ensures.items i.at
    c.new_door-door.ensures.at in
    grind arith
