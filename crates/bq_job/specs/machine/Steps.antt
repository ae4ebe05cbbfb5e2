-- A step of the model: its six parts, and what a lack of memory may change.
use Rattle.std.specs.Prelude.{ℕ, Bool, true, false, ◌≡◌, ◌&&◌, ◌||◌, Option, Some, None, List, [], ◌∷◌, ◌++◌, IsTrue}
use Rattle.std.specs.List.{list_any}
use Rattle.bq_job.specs.machine.{Acts.{Effect, telling}, Asked.effect, Dispatch.{DispatchTurn, GivenAnswer, next_job}}
use Rattle.bq_job.specs.machine.{Machine.Machine, Timers.{after_timers, at_moment}, Tubes.forgetting, Waits.Chain}
use Rattle.bq_job.specs.{machine.Waits.{WaitEndTurn, next_end}, Types.{Answer, Request, Step}}
use Rattle.bq_job.specs.declared.answer.Answer.TheVariants as answers
use Rattle.bq_job.specs.declared.request.Request.TheVariants as requests
use Rattle.bq_job.specs.declared.step.Step.TheVariants as steps

-- whether a command got the memory that it needed: yes; an allocation failed; or a body could not
-- be shared
pub data Memory : Type 0 where
  granted growth_refused share_refused : Memory

-- the commands that allocate
abbrev pub takes_memory : Request → Bool
takes_memory (requests.Put pri delay ttr body) = true
takes_memory (requests.Use tube) = true
takes_memory (requests.Watch tube) = true
takes_memory requests.Stats = true
takes_memory (requests.StatsJob id) = true
takes_memory (requests.StatsTube tube) = true
takes_memory requests.ListTubes = true
takes_memory requests.ListTubesWatched = true
takes_memory _ = false

abbrev pub step_takes_memory : Step → Bool
step_takes_memory (steps.Ask request) = takes_memory request
step_takes_memory _ = false

-- A command without an answer, and one answered DRAINING, NOT_FOUND or, for a put at the job limit,
-- OUT_OF_MEMORY, needs no allocation.
abbrev pub may_be_left_out : Option Answer → Bool
may_be_left_out None = false
may_be_left_out (Some answers.Draining) = false
may_be_left_out (Some answers.NotFound) = false
may_be_left_out (Some answers.OutOfMemory) = false
may_be_left_out (Some _) = true

abbrev pub shares_body : Option Answer → Bool
shares_body (Some (answers.Reserved id body)) = true
shares_body (Some (answers.Found id body)) = true
shares_body _ = false

-- An allocation can fail only in a command that allocates, and a reference to a body can be refused
-- only for an answer with a body.
abbrev pub is_possible : Memory → Machine → ℕ → Step → Bool
is_possible granted m seat what = true
is_possible growth_refused m seat what = step_takes_memory what && may_be_left_out (effect m seat what).answer
is_possible share_refused m seat what = shares_body (effect m seat what).answer

-- The command's own effect. If memory was lacking, it changes nothing and is answered
-- OUT_OF_MEMORY.
abbrev pub acted : Memory → Machine → ℕ → Step → Effect
acted granted m seat what = effect m seat what
acted growth_refused m seat what = telling answers.OutOfMemory m
acted share_refused m seat what = telling answers.OutOfMemory m

abbrev pub addressed : ℕ → Option Answer → List GivenAnswer
addressed seat None = []
addressed seat (Some answer) = (seat, answer) ∷ []

abbrev pub is_out_of_memory : Answer → Bool
is_out_of_memory answers.OutOfMemory = true
is_out_of_memory _ = false

-- whether dispatch was refused a reference to a body for one of these
abbrev pub has_refused_share : List GivenAnswer → Bool
has_refused_share given = list_any (λ g. is_out_of_memory g.1) given

-- Dispatch continues until no waiting client may have a job.
pub record Dispatches (first : Machine) (given : List GivenAnswer) (last : Machine) : Type 0 where
  pub end : Machine
  pub turns : Chain DispatchTurn first given end
  pub done : next_job end ≡ None
  pub forgets : last ≡ forgetting end

-- Waits end until no further wait would end now.
pub record EndsWaits (first : Machine) (given : List GivenAnswer) (last : Machine) : Type 0 where
  pub end : Machine
  pub turns : Chain WaitEndTurn first given end
  pub done : next_end end ≡ None
  pub forgets : last ≡ forgetting end

-- dispatch, and then the ends of waits
pub record Serves (first : Machine) (handed ended : List GivenAnswer) (last : Machine) : Type 0 where
  pub between : Machine
  pub dispatches : Dispatches first handed between
  pub ends_waits : EndsWaits between ended last

abbrev pub is_growth_refused : Memory → Bool
is_growth_refused growth_refused = true
is_growth_refused _ = false

abbrev pub is_share_refused : Memory → Bool
is_share_refused share_refused = true
is_share_refused _ = false

-- the outcome of a step: whether its command was skipped because an allocation failed, and whether
-- a body could not be shared
pub record Outcome : Type 0 where
  pub left_out : Bool
  pub unshared : Bool

-- Timers fire, jobs are dispatched, waits end; then comes the command's own effect, and jobs are
-- dispatched and waits end once more. The answers are in that order.
pub record IsStep (first : Machine) (at seat : ℕ) (what : Step) (outcome : Outcome)
    (answers : List GivenAnswer) (last : Machine) : Type 0 where
  pub memory : Memory
  -- before and after the command's own effect
  pub before : Machine
  pub after : Machine
  pub handed : List GivenAnswer
  pub ended : List GivenAnswer
  pub handed_then : List GivenAnswer
  pub ended_then : List GivenAnswer
  pub serves : Serves (forgetting (after_timers (at_moment at first))) handed ended before
  pub possible : IsTrue (is_possible memory before seat what)
  pub acts : after ≡ forgetting (acted memory before seat what).machine
  pub serves_then : Serves after handed_then ended_then last
  pub answers_are : answers ≡ handed ++ ended ++ addressed seat (acted memory before seat what).answer ++ handed_then ++ ended_then
  pub left_out : outcome.left_out ≡ is_growth_refused memory
  pub unshared : outcome.unshared ≡ (is_share_refused memory || has_refused_share handed || has_refused_share handed_then)
