-- The ranges of the options.
use Rattle.std.specs.Prelude.{◌≤◌, IfSome}
use Rattle.bq_job.specs.declared.limits.TheConstants.{LARGEST_BODY, MOST_SEATS}
use Rattle.bq_program.specs.declared.chosen.BqOptions.{BqOptions}
use Rattle.bq_program.specs.declared.chosen.BqdOptions.{BqdOptions}

-- the options of a lone client
pub record IsForBq (o : BqOptions) : Type 0 where
  pub body : 1 ≤ o.max_job_size
  pub body_at_most : o.max_job_size ≤ LARGEST_BODY
  pub jobs : IfSome o.max_jobs (λ n. 1 ≤ n)

-- the options of a server
pub record IsForBqd (o : BqdOptions) : Type 0 where
  pub seats : 1 ≤ o.seats
  pub seats_at_most : o.seats ≤ MOST_SEATS
  pub body : 1 ≤ o.max_job_size
  pub body_at_most : o.max_job_size ≤ LARGEST_BODY
  pub jobs : IfSome o.max_jobs (λ n. 1 ≤ n)
  pub sessions : IfSome o.sessions (λ k. 1 ≤ k)
