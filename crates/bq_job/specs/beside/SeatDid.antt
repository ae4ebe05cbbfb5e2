-- What a seat did: the steps that it submitted and the answers that it took, connection by
-- connection. It does not refer to the core.
use Rattle.std.specs.Prelude.{ℕ, false, ◌≡◌, List, [], ◌∷◌, ◌++◌}
use Rattle.bq_job.specs.{declared.{answer.Answer.TheVariants.Closed, step.Step.TheVariants.Gone}, machine.has_closed}
use Rattle.bq_job.specs.{promise.{LineOwed.IsLineOwed, History.LineOver, LineSteps.answers_text}, Types.{Answer, LineEnd, Step}}
use Rattle.bq_job.specs.declared.line_end.LineEnd.TheVariants as ends

-- A seat writes every answer that it takes for a connection. So after a read fault, none of them
-- was left unwritten.
abbrev pub IsNoneUnwritten : LineEnd → List Answer → List ℕ → Type 0
IsNoneUnwritten ends.ReadFault own written = written ≡ answers_text own
IsNoneUnwritten _ own written = Unit {0}

-- A connection that has ended, as its seat sees it. The submitted steps are the connection's steps.
-- The taken answers are one for each request except `quit` (after a read fault, the answer to a
-- last request that may wait can be missing), then any others except `Closed`, then `Closed`.
pub record IsLineServed (max_job_size : ℕ) (line : LineOver) (submitted : List Step) (taken : List Answer) : Type 0 where
  pub own : List Answer
  pub others : List Answer
  pub line_owed : IsLineOwed max_job_size line submitted own
  pub none_unwritten : IsNoneUnwritten line.over own line.seen.written
  pub taken_is : taken ≡ own ++ (others ++ Closed ∷ [])
  pub none_closed : has_closed others ≡ false

-- the connections in the order in which they ended
abbrev pub AreLinesServed : ℕ → List LineOver → List Step → List Answer → Type 0
AreLinesServed max_job_size [] submitted taken = (submitted ≡ []) × (taken ≡ [])
AreLinesServed max_job_size (line ∷ lines) submitted taken =
    (own more : List Step) × (got later : List Answer)
    × IsLineServed max_job_size line own got × (submitted ≡ own ++ more) × (taken ≡ got ++ later)
    × AreLinesServed max_job_size lines more later

-- What a seat did whose door is done: it served its connections, and then submitted that no more
-- come.
pub record IsSeatDone (max_job_size : ℕ) (lines : List LineOver) (submitted : List Step) (taken : List Answer) : Type 0 where
  pub own : List Step
  pub of_lines : AreLinesServed max_job_size lines own taken
  pub submitted_is : submitted ≡ own ++ Gone ∷ []
