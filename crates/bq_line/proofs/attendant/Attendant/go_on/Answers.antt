use Rattle.std.proofs.Common.{[], refl, inl, inr, arith}
use Rattle.bq_line.specs.Tending.{door_seen}
use Rattle.bq_line.proofs.CarriedLemmas.{uses_carried}
use Rattle.bq_line.proofs.TendingLemmas.{tends_acted, tends_submitted}
use Rattle.bq_line.proofs.attendant.Attendant.go_on.Goals as goal

pub returns-in-LineOver-clause-trace : goal.returns-in-LineOver-clause-trace
returns-in-LineOver-clause-trace g c = rw c.in-On.is ([], [], inr (refl, refl, refl), c.shut_line.ensures.trace c.args.self.now.machine)

pub returns-in-Submit-clause-trace : goal.returns-in-Submit-clause-trace
returns-in-Submit-clause-trace g c =
    let at = door_seen g.D.Door c.args.door.now in
    let m = c.args.self.now.machine in
    let new = c.submit_and_take.new in
    let h = c.submit_and_take.ensures.submitted c.in-Submit.ensures.action.0 c.in-Submit.ensures.action.1 in
    rw (c.in-On.is, c.in-Submit.ensures.action.1) (
      h.0,
      h.1,
      inl h.2,
      tends_submitted c.submit_and_take.result g.L.Line.seen m new.machine c.in-On.line c.in-Submit.ensures.action.0 new.action c.in-On.sent
          new.sent h.0 h.1 at c.submit_and_take.ensures.none_sent h.3,
    )

pub returns-in_default-does-clause-trace : goal.returns-in_default-does-clause-trace
returns-in_default-does-clause-trace g c =
    let at = door_seen g.D.Door c.args.door.now in
    let h = c.carry_out.ensures.carried in
    let t = tends_acted g.K.Link.trace _ _ _ g.L.Line.seen _ _ c.in-On.line c.carry_out.new.line _ _ c.in-On.sent c.carry_out.new.sent
    h.0 h.1 h.2 h.3 in
    rw c.in-On.is (h.0, h.1, t.0, t.1 at)

pub returns-in_default-does-clause-progress : goal.returns-in_default-does-clause-progress
returns-in_default-does-clause-progress g c = grind arith

pub returns-in_default-does-clause-still : goal.returns-in_default-does-clause-still
returns-in_default-does-clause-still g c = grind arith

pub returns-in_default-does-clause-sure : goal.returns-in_default-does-clause-sure
returns-in_default-does-clause-sure g c = grind arith

pub returns-in_default-does-clause-uses : goal.returns-in_default-does-clause-uses
returns-in_default-does-clause-uses g c =
    let h = c.carry_out.ensures.carried in
    rw c.in-On.is (uses_carried g.K.Link.trace _ _ _ _ _ _ _ _ _ _ _ h.0 h.1 h.2 h.3)
