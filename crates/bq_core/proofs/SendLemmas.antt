-- A core may be sent to another thread.
use Rattle.std.proofs.Crossing as Crossing
use Rattle.bq_job.proofs.SendLemmas.{numbered_body_sends}
use Rattle.bq_index.proofs.tree.Node.TheLaws.TheKnot as TheKnot
use Rattle.bq_state.specs.contracts.store.Store as Store
use Rattle.bq_jobs.specs.contracts.numbered_jobs.PackedJob as PackedJob
use Rattle.bq_core.specs.contracts.step.Core as Core
use denote.Param.Send.{IsSend, sendable}

packed_job_sends : IsSend (PackedJob.the_field).row
packed_job_sends = search (numbered_body_sends, Crossing.crosses, TheKnot.crosses, sendable) depth 60 fits 20000

store_sends : IsSend (Store.the_field).row
store_sends = search (packed_job_sends, Crossing.crosses, TheKnot.crosses, sendable) depth 60 fits 20000

pub core_sends : IsSend (Core.the_field).row
core_sends = search (store_sends, Crossing.crosses, TheKnot.crosses, sendable) depth 60 fits 20000
