-- Which steps carry a body.
use Rattle.std.specs.Prelude.{Bool, true, false}
use Rattle.bq_job.specs.Types.{Request, Step}
use Rattle.bq_job.specs.declared.request.Request.TheVariants as requests
use Rattle.bq_job.specs.declared.step.Step.TheVariants as steps

abbrev pub request_has_body : Request → Bool
request_has_body (requests.Put pri delay ttr body) = true
request_has_body _ = false

abbrev pub has_body : Step → Bool
has_body (steps.Ask request) = request_has_body request
has_body _ = false
