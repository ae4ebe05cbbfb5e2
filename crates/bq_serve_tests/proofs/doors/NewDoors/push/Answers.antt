use Rattle.std.proofs.Common.{map}
use Rattle.bq_line.specs.MemDoors.{line_over}
use Rattle.bq_line.specs.Tending.{IsNewDoor}
use Rattle.bq_serve_tests.specs.declared.doors.CountedDoor.{CountedDoor}
use Rattle.bq_serve_tests.proofs.DoorLemmas.{all_pushed_if}
use Rattle.bq_serve_tests.proofs.doors.NewDoors.push.Goals as goal

abbrev IsNew : CountedDoor → Type 0
IsNew d = IsNewDoor (record { is_out = d.door.is_out; is_at_end = d.door.is_at_end; lines_over = map line_over d.door.over.items })

pub invariant_of-self : goal.invariant_of-self
invariant_of-self c =
    let is_new : IsNewDoor (record {
      is_out = c.args.door.is_out;
      is_at_end = c.args.door.is_at_end;
      lines_over = map line_over c.args.door.over.items;
    }) = record {
      inside = c.requires.inside;
      more = c.requires.more;
      none_over = c.requires.none_over;
    } in
    record {
      new = all_pushed_if _ c.args.self.now.all.items _ _ IsNew c.push.ensures.items c.args.self.now.new is_new;
    }
