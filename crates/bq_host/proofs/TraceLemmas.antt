-- What happens at a core with its clock and the mail of its seats, step by step.
use Rattle.std.proofs.Common.{◌≡◌, ◌≢◌, ◌<◌, ℕ, List, [], ◌∷◌, ◌++◌}
use Rattle.std.proofs.Common.{Option, length, refl, ap, ◌∙◌, arith, append-nil, append_assoc}
use Rattle.std.specs.Prelude.{◌==◌, if◌then◌else◌}
use Rattle.std.proofs.lemmas.Bool.{cases_Bool}
use Rattle.std.proofs.lemmas.Grind.{common_steps}
use Rattle.std.proofs.lemmas.List.{length-replicate}
use Rattle.bq_job.specs.declared.answer.Answer.{Answer}
use Rattle.bq_job.specs.declared.settings.Settings.{Settings}
use Rattle.bq_job.specs.declared.step.Step.{Step}
use Rattle.bq_job.specs.machine.Dispatch.{GivenAnswer}
use Rattle.bq_job.specs.promise.History.{is_tick, steps_at}
use Rattle.bq_job.specs.promise.Runs.{Entry, answers_to}
use Rattle.bq_job.proofs.OneClientLemmas.{answers_append}
use Rattle.bq_host.specs.MailStates.{MailState, IsInOrder, IsNewMailState, OnlyDelivers, timed_of, waiting}
use Rattle.bq_host.specs.{TimedRuns.HasRun, Traces.{CoreTrace, SeatTrace}}
use Rattle.bq_host.proofs.TimedRunLemmas.{entry_of, ran_none, ran_then}

pub steps_append : (t : ℕ) (xs ys : List Entry) → steps_at t (xs ++ ys) ≡ steps_at t xs ++ steps_at t ys
steps_append t [] ys = refl
steps_append t (x ∷ xs) ys = grind (arith, common_steps, cases_Bool, steps_append t xs ys)

abbrev the_empty : List Answer
the_empty = []

-- Nothing happened.
pub core_none : (d : MailState) → CoreTrace d [] [] (λ t. []) d
core_none d = grind (arith, common_steps)

-- Two parts of what happened, one after the other.
pub core_on : (first next last : MailState) (readings reads : List (Option ℕ)) (history more : List Entry) (took later : ℕ → List Answer)
    → CoreTrace first readings history took next → CoreTrace next reads more later last
    → CoreTrace first (readings ++ reads) (history ++ more) (λ t. took t ++ later t) last
core_on first next last readings reads history more took later a b =
    let ran : HasRun (timed_of first) (readings ++ reads) (history ++ more) (a.given ++ b.given) (timed_of last) =
    ran_then (timed_of first) (timed_of next) (timed_of last) readings reads history more a.given b.given (grind arith) (grind arith) in
    record {
      given = a.given ++ b.given;
      runs = ran.runs;
      timed = ran.timed;
      compared = ran.compared;
      many = grind arith;
      tied = λ t below. grind (arith, answers_append, append_assoc, a.tied t below, b.tied t);
    }

-- ---- one seat

-- this for the seat, and nothing for the others
abbrev pub only : {X : Type 0} → ℕ → List X → ℕ → List X
only seat xs t = if t == seat then xs else []

-- What a seat did while the core did this: no other seat submitted a step or took an answer.
pub seat_did : (d n : MailState) (seat : ℕ) (readings : List (Option ℕ)) (history : List Entry) (given : List GivenAnswer)
    (submitted : List Step) (taken : List Answer)
    → HasRun (timed_of d) readings history given (timed_of n) → length n.mails ≡ length d.mails
    → ((t : ℕ) → t < length d.mails → waiting t d ++ answers_to t given ≡ only seat taken t ++ waiting t n)
    → steps_at seat history ≡ submitted → ((t : ℕ) → t ≢ seat → steps_at t history ≡ [])
    → SeatTrace seat d readings submitted taken n
seat_did d n seat readings history given submitted taken ran many tied steps others = record {
  history = history;
  took = only seat taken;
  trace = grind arith;
  submitted_is = steps;
  taken_is = grind (arith, common_steps);
  others_still = others;
  others_took = λ t differs. grind (arith, common_steps);
}

-- The core took a step of the seat, or a tick.
pub seat_stepped : (d n : MailState) (seat at : ℕ) (what : Step) (readings : List (Option ℕ)) (given : List GivenAnswer)
    → HasRun (timed_of d) readings (entry_of at seat what ∷ []) given (timed_of n) → n.mails ≡ d.mails → d.pending ≡ []
    → n.pending ≡ given → SeatTrace seat d readings (if is_tick what then [] else what ∷ []) [] n
seat_stepped d n seat at what readings given ran mails empty full =
    seat_did d n seat readings (entry_of at seat what ∷ []) given (if is_tick what then [] else what ∷ []) [] ran (ap length mails)
    (λ t below. grind (arith, common_steps)) (grind (arith, common_steps)) (λ t differs. grind (arith, common_steps))

-- The seat took these answers while no step was taken.
pub seat_took : (d n : MailState) (seat : ℕ) (readings : List (Option ℕ)) (taken : List Answer)
    → HasRun (timed_of d) readings [] [] (timed_of n) → length n.mails ≡ length d.mails
    → ((t : ℕ) → t < length d.mails → waiting t d ≡ only seat taken t ++ waiting t n) → SeatTrace seat d readings [] taken n
seat_took d n seat readings taken ran many tied = search (seat_did, append-nil)

-- A seat did nothing, or one thing after another.
pub seat_none : (d : MailState) (seat : ℕ) → SeatTrace seat d [] [] [] d
seat_none d seat = grind (arith, common_steps, ran_none, seat_took)

pub seat_on : (first next last : MailState) (seat : ℕ) (readings reads : List (Option ℕ)) (submitted more : List Step)
    (taken later : List Answer)
    → SeatTrace seat first readings submitted taken next → SeatTrace seat next reads more later last
    → SeatTrace seat first (readings ++ reads) (submitted ++ more) (taken ++ later) last
seat_on first next last seat readings reads submitted more taken later a b = record {
  history = a.history ++ b.history;
  took = λ t. a.took t ++ b.took t;
  trace = core_on first next last readings reads a.history b.history a.took b.took a.trace b.trace;
  submitted_is = grind (arith, steps_append);
  taken_is = grind arith;
  others_still = grind (arith, steps_append);
  others_took = grind arith;
}

-- Answers were only put into the mail: the seat did nothing.
pub seat_delivered : (d n : MailState) (seat : ℕ) → OnlyDelivers d n → SeatTrace seat d [] [] [] n
seat_delivered d n seat s = grind (arith, common_steps, seat_took)

-- no answer is held back if none is pending
pub none_held_back : {X : Type 0} (xs ys : List X) → xs ++ ys ≡ [] → xs ≡ []
none_held_back [] ys h = refl
none_held_back (x ∷ xs) ys h = absurd cc

-- A new core is in order.
pub order_new : (settings : Settings) (d : MailState) → IsNewMailState settings d → IsInOrder d
order_new settings d new = grind (arith, common_steps)

pub new_mails_are : (settings : Settings) (d : MailState) → IsNewMailState settings d → length d.mails ≡ settings.seats
new_mails_are settings d new = ap length new.mails ∙ length-replicate settings.seats the_empty

-- No answer waits at a new core.
pub none_waits : (settings : Settings) (d : MailState) (seat : ℕ) → IsNewMailState settings d → waiting seat d ≡ []
none_waits settings d seat new = grind (arith, common_steps)
