-- Runs of the model over a history.
use Rattle.std.specs.Prelude.{ℕ, ◌≡◌, ◌==◌, List, [], ◌∷◌, map, filter, flat_map}
use Rattle.bq_job.specs.{machine.{GivenAnswer, IsStep, Memory, Outcome, Machine.Machine}, Types.{Answer, Step}}

-- one step of a history
pub record Entry : Type 0 where
  pub moment : ℕ
  pub seat : ℕ
  pub what : Step

-- the parts of a step: the answers that each part gave, and the models between the parts
pub record Parts : Type 0 where
  -- First jobs are dispatched and waits end.
  pub handed : List GivenAnswer
  pub between : Machine
  pub ended : List GivenAnswer
  pub before : Machine
  -- Then comes the command's own effect.
  pub memory : Memory
  pub after : Machine
  -- Then jobs are dispatched and waits end once more.
  pub handed_then : List GivenAnswer
  pub between_then : Machine
  pub ended_then : List GivenAnswer

abbrev pub parts_of : {first last : Machine} {at seat : ℕ} {what : Step} {outcome : Outcome} {answers : List GivenAnswer}
    → IsStep first at seat what outcome answers last → Parts
parts_of step = record {
  handed = step.handed;
  between = step.serves.between;
  ended = step.ended;
  before = step.before;
  memory = step.memory;
  after = step.after;
  handed_then = step.handed_then;
  between_then = step.serves_then.between;
  ended_then = step.ended_then;
}

-- a step that was taken: the models before, between and after its parts, its outcome, and its
-- answers
pub record Transition : Type 0 where
  pub entry : Entry
  pub first : Machine
  pub parts : Parts
  pub last : Machine
  pub outcome : Outcome
  pub given : List GivenAnswer

-- The model can take this step.
pub record IsTransition (t : Transition) : Type 0 where
  pub step : IsStep t.first t.entry.moment t.entry.seat t.entry.what t.outcome t.given t.last
  pub parts_are : t.parts ≡ parts_of step

-- These steps lead the model from `first` to `last`, each from where the previous one ended.
abbrev pub GoesBy : Machine → List Transition → Machine → Type 0
GoesBy first [] last = last ≡ first
GoesBy first (t ∷ taken) last = (t.first ≡ first) × IsTransition t × GoesBy t.last taken last

-- The model takes the steps of the history, one after another, with these outcomes, and gives these
-- answers in this order. Laws about each step of the run are stated on the list of steps taken.
pub record RunBy (first : Machine) (history : List Entry) (outcomes : List Outcome)
    (given : List GivenAnswer) (last : Machine) : Type 0 where
  pub taken : List Transition
  pub goes : GoesBy first taken last
  pub history_is : map (λ t. t.entry) taken ≡ history
  pub outcomes_are : map (λ t. t.outcome) taken ≡ outcomes
  pub given_is : flat_map (λ t. t.given) taken ≡ given

-- The model takes the steps of the history, whatever their outcomes.
abbrev pub Run : Machine → List Entry → List GivenAnswer → Machine → Type 0
Run first history given last = (outcomes : List Outcome) × RunBy first history outcomes given last

-- the answers that go to a seat
abbrev pub answers_to : ℕ → List GivenAnswer → List Answer
answers_to seat given = map (λ g. g.1) (filter (λ g. g.0 == seat) given)
