use Rattle.std.proofs.{Common.arith, lemmas.Grind.common_steps}
use Rattle.bq_jobs.proofs.NamedJobs.{registered_more}
use Rattle.bq_state.proofs.{EndMoves.ends_provided, NamedLemmas.records_with}
use Rattle.bq_state.proofs.store.Store.provide.Goals as goal

pub invariant_of-self-2 : goal.invariant_of-self-2
invariant_of-self-2 c =
    let registered = registered_more c.self.inside.table.tubes c.insert.new.self.tubes c.in_ok-number.ensures.paired c.self.inside.jobs.jobs
    c.self.invariant.registered c.in_ok-number.ensures.extends in
    grind (
      arith,
      common_steps,
      registered,
      records_with c.args.name.now c.self.inside.table.entries,
      ends_provided c.args.name.now,
    )
