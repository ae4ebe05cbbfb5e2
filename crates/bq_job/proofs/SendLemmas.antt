-- A body may be sent to another thread.
use denote.Param.Send.{IsSend, sendable}
use Rattle.bq_job.specs.contracts.body.Body as Body
use Rattle.bq_job.specs.contracts.body.NumberedBody as NumberedBody
use Rattle.std.proofs.Crossing as Crossing

pub body_sends : IsSend (Body.the_field).row
body_sends = search (Crossing.crosses, sendable) depth 60 fits 20000

pub numbered_body_sends : IsSend (NumberedBody.the_field).row
numbered_body_sends = search (Crossing.crosses, sendable) depth 60 fits 20000
