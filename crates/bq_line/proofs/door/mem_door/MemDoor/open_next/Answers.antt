use Rattle.std.proofs.Common.{◌≡◌, ◌+◌, ◌-◌, ◌∙◌, ℕ, length, drop, drop-drop, ap, sym, arith}
use Rattle.std.proofs.lemmas.List.Elements.{All-rest}
use Rattle.bq_line.specs.MemDoors.{IsFresh}
use Rattle.bq_line.proofs.door.mem_door.MemDoor.open_next.Goals as goal

pub invariant_of-self : goal.invariant_of-self
invariant_of-self c =
    let door = c.args.self.now in
    let all = rw c.requires.more.0 at door.all in
    let one = ap length c.in-Some.ensures.items in
    let put_in = door.put_in.lines.value.items in
    let passed : ℕ = length put_in - length door.coming.items in
    let same : passed + 1 ≡ length put_in - length c.pop_front.new.self.items = omega (arith, all, one) in
    let room = rw c.requires.more.0 at door.room in
    record {
      room = omega (arith, one, room);
      fresh = All-rest IsFresh c.in-Some.line c.pop_front.new.self.items door.coming.items c.in-Some.ensures.items door.fresh;
      all = omega (arith, one, all);
      last = ap (drop 1) (sym c.in-Some.ensures.items ∙ door.last) ∙ drop-drop 1 passed put_in ∙ ap (λ n. drop n put_in) same;
      end = λ at_end. let more = c.requires.more.1 in cc;
    }
