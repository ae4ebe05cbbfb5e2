use Rattle.std.proofs.{Common.{arith, length, ◌≤◌}, lemmas.{Grind.common_steps, List.length-map}}
use Rattle.bq_job.specs.machine.{greatest}
use Rattle.bq_state.proofs.{CrowdLemmas.{counted_moved, seated_moved}, KnowledgeLemmas.{entries_then, so_then}, PartsLemmas.numbered_after}
use Rattle.bq_state.proofs.WaitingLemmas.{rising_left, waiters_moved, waiters_within}
use Rattle.bq_state.proofs.changes.change_seat_by.Goals as goal

pub invariant_of-state : goal.invariant_of-state
invariant_of-state c =
    let st = c.args.state.now in
    let n = c.args.seat in
    let what = c.args.what.now in
    let few : length st.seats.items ≤ greatest = omega (arith, c.as_slice.ensures.len) in
    let entries = entries_then st n what few c.requires.waits c.requires.entry in
    let so = so_then st n what few c.requires.waits c.requires.holds in
    let counts = counted_moved n what st.seats.items st.sound.numbered few c.requires.waits st.sound.seated st.store.jobs.jobs
    st.store.tubes
    st.sound.counts in
    let seated = seated_moved n what st.seats.items st.sound.numbered few c.requires.waits st.sound.seated in
    let numbered = numbered_after n what st.seats.items st.sound.numbered in
    grind (arith, common_steps, rising_left, waiters_moved, waiters_within, length-map)
