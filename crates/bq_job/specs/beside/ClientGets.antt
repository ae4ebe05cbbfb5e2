-- What a step gives to one client.
use Rattle.std.specs.Prelude.{ℕ, true, false, ◌≡◌, ◌+◌, ◌≤◌, if◌then◌else◌, List, [], ◌∷◌, ◌++◌, length}
use Rattle.bq_job.specs.machine.{GivenAnswer, has_closed, is_connected_at, is_waiting_at, Machine.Machine}
use Rattle.bq_job.specs.{promise.{answers_to, answers_wanted, is_waiting_request}, Types.{Answer, Request, Step}}
use Rattle.bq_job.specs.declared.answer.Answer.TheVariants as answers
use Rattle.bq_job.specs.declared.step.Step.TheVariants as steps

-- how many answers the client waits for: one or none
abbrev pub owing : ℕ → Machine → ℕ
owing seat m = if is_waiting_at seat m then 1 else 0

-- The client got the answer that it waited for, or no answer, and nothing else happened to it.
pub record GetsWhatWaits (first last : Machine) (seat : ℕ) (given : List Answer) : Type 0 where
  pub count : length given + owing seat last ≡ owing seat first
  pub unclosed : has_closed given ≡ false
  pub connected : is_connected_at seat last ≡ is_connected_at seat first

-- The client makes a request while it waits for nothing. It gets the answer, or waits for it if the
-- request is one that may wait.
pub record GetsAnswer (first last : Machine) (seat : ℕ) (request : Request) (given : List Answer) : Type 0 where
  pub count : length given + owing seat last ≡ answers_wanted request
  pub at_once : is_waiting_request request ≡ false → owing seat last ≡ 0
  pub unclosed : has_closed given ≡ false
  pub connected : is_connected_at seat last ≡ true

-- The client makes a request, whether it waits or not. The answers that it gets and the one that it
-- then waits for are at most one more than it waited for before.
pub record GetsAtMost (first last : Machine) (seat : ℕ) (request : Request) (given : List Answer) : Type 0 where
  pub count : length given + owing seat last ≤ owing seat first + answers_wanted request
  pub unclosed : has_closed given ≡ false
  pub connected : is_connected_at seat last ≡ true

-- The client has disconnected. It may first get the answer that it waited for; its last answer is
-- `Closed`.
pub record GetsClosed (first last : Machine) (seat : ℕ) (given : List Answer) : Type 0 where
  pub early : List Answer
  pub given_is : given ≡ early ++ answers.Closed ∷ []
  pub count : length early ≤ owing seat first
  pub unclosed : has_closed early ≡ false
  pub none : owing seat last ≡ 0
  pub gone : is_connected_at seat last ≡ false

-- What the step gives to the client at its seat, and what that client waits for afterwards. A
-- client that sends no more does not wait.
abbrev pub GivesClient : ℕ → Machine → Step → List GivenAnswer → Machine → Type 0
GivesClient seat first steps.Connect given last =
    is_connected_at seat first ≡ false → (answers_to seat given ≡ []) × (owing seat last ≡ 0) × (is_connected_at seat last ≡ true)
GivesClient seat first (steps.Ask request) given last =
    is_connected_at seat first ≡ true → owing seat first ≡ 0 → GetsAnswer first last seat request (answers_to seat given)
GivesClient seat first steps.Close given last = is_connected_at seat first ≡ true → GetsClosed first last seat (answers_to seat given)
GivesClient seat first steps.End given last =
    GetsWhatWaits first last seat (answers_to seat given) × (is_connected_at seat first ≡ true → owing seat last ≡ 0)
GivesClient seat first steps.Drain given last = GetsWhatWaits first last seat (answers_to seat given)
GivesClient seat first steps.Tick given last = GetsWhatWaits first last seat (answers_to seat given)
GivesClient seat first steps.Gone given last = GetsWhatWaits first last seat (answers_to seat given)
