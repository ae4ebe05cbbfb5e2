-- The answers of a step may go to another thread.
use denote.Param.Send.{IsSend, sendable}
use Rattle.bq_core_api.specs.contracts.outs.Outs as Outs
use Rattle.bq_job.proofs.SendLemmas.{body_sends}
use Rattle.std.proofs.Crossing as Crossing

pub outs_sends : IsSend (Outs.the_field).row
outs_sends = search (body_sends, Crossing.crosses, sendable) depth 60 fits 20000
