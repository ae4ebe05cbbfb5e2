use Rattle.std.proofs.Common.{arith}
use Rattle.std.proofs.lemmas.Grind.{common_steps}
use Rattle.bq_state.proofs.EndMoves.{count_stays, edit_moves, end_absent, ends_moved}
use Rattle.bq_state.specs.TubesSeen.{entry_changed}
use Rattle.bq_state.proofs.tubes.pauses.change.Goals as goal

pub enter-requires : goal.enter-requires
enter-requires c =
    let from = c.end_of-from.ensures in
    let edit = c.edit-changed.ensures in
    let moves = edit_moves c.args.name.now (entry_changed c.args.what) _ _ edit.tubes edit.entries from.ordered from.apart in
    let next = rw edit.tubes at c.end_of-to.ensures.end in
    record {
      spare = grind (arith, common_steps);
      absent = grind (arith, end_absent);
    }

pub returns-in-Pause-clause-ends : goal.returns-in-Pause-clause-ends
returns-in-Pause-clause-ends c =
    let from = c.end_of-from.ensures in
    let edit = c.edit-changed.ensures in
    let moves = edit_moves c.args.name.now (entry_changed c.args.what) _ _ edit.tubes edit.entries from.ordered from.apart in
    let next = rw edit.tubes at c.end_of-to.ensures.end in
    search ends_moved

pub returns-in-CountPut-clause-ends : goal.returns-in-CountPut-clause-ends
returns-in-CountPut-clause-ends c = search count_stays
