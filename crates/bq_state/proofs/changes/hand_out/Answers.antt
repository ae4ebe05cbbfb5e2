use Rattle.std.proofs.Common.{refl}
use Rattle.bq_state.proofs.HandOutLemmas.{handed_out, sound_then}
use Rattle.bq_state.proofs.changes.hand_out.Goals as goal

pub invariant_of-state : goal.invariant_of-state
invariant_of-state c =
    let st = c.args.state.now in
    let shared = c.share_and_change-shared.ensures in
    let counts = rw (c.as_slice.ensures.value, shared.tubes) at c.count_if_moved.ensures.counts in
    rw c.count_if_moved.ensures.jobs (record {
      sound = sound_then st c.args.seat c.args.id c.share_and_change-shared.new.self.jobs c.count_if_moved.new.known
          c.count_if_moved.new.store.tubes c.share_and_change-shared.result shared.changed counts;
    })

pub returns : goal.returns
returns c =
    let st = c.args.state.now in
    let shared = c.share_and_change-shared.ensures in
    let counts = rw (c.as_slice.ensures.value, shared.tubes) at c.count_if_moved.ensures.counts in
    let changes = rw (← c.count_if_moved.ensures.jobs) at shared.changed in
    rw c.body_of.ensures (handed_out st c.args.seat c.args.id c.count_if_moved.new.store.jobs c.count_if_moved.new.known
    c.count_if_moved.new.store.tubes _ refl c.share_and_change-shared.result changes counts)
