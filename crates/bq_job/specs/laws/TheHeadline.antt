-- The headline as a whole, for a run that left a history: the one run of the model along it, the
-- bytes of each connection, and what happened to jobs.
use Rattle.std.specs.{List.{list_all, list_any}, Prelude.{◌++◌, ◌==◌, ◌∷◌, ◌≡◌, ◌≤◌, Bool, Contains, IsTrue, List}}
use Rattle.std.specs.Prelude.{Option, [], ℕ, count_by, false, flat_map, length, map}
use Rattle.bq_job.specs.promise.{AreDoorsOwed, AreLinesOwed, AreSeatsUpTo, Entry, GoesBy, IsControlDone, IsRun, IsTimedBy}
use Rattle.bq_job.specs.promise.{LineOver, Transition}
use Rattle.bq_job.specs.laws.Undisturbed.{IsHandedOut, IsHandedOutBefore, IsPutBefore, IsUndisturbed, is_deletion, is_hand_out}
use Rattle.bq_job.specs.declared.{answer.Answer.TheVariants.{Deleted, Inserted}, job.Job.Job}
use Rattle.bq_job.specs.{declared.step.Step.TheVariants.Drain, laws.Happenings.{Happening, Part, happenings}}
use Rattle.bq_job.specs.laws.{Happenings.{parts_of_run, put}, LawsOfRuns.{GivesLeast, IsDeletion, IsHeldByOne, IsKept}}
use Rattle.bq_job.specs.{laws.LawsOfRuns.has_inserted, machine.{GivenAnswer, Settings, last_id, new_machine}}
use Rattle.bq_job.specs.{machine.Machine.Machine, promise.{answers_to, steps_at, without_ticks}}

-- What happens to jobs while these steps are taken.
pub record AreJobsServed (taken : List Transition) (happened : List Happening) : Type 0 where
  -- Each RESERVED gives the least job that the client may have at that moment, or the one that its
  -- reserve-job names.
  pub least : (t : Transition) → Contains taken t → GivesLeast t
  -- An undisturbed job is handed out at most once.
  pub once : (j : Job) → IsUndisturbed j happened → count_by (is_hand_out j.id) happened ≤ 1
  -- Two undisturbed jobs of one priority and tube are handed out in the order of their puts.
  pub in_order : (a b : Job) → IsUndisturbed a happened → IsUndisturbed b happened → a.pri ≡ b.pri → a.tube ≡ b.tube
      → IsPutBefore a.id b.id happened → IsHandedOut a.id happened → IsHandedOut b.id happened → IsHandedOutBefore a.id b.id happened
  -- From its put until its deletion, a job is present exactly once after each part of a step.
  pub kept : (early late : List Part) (p : Part) (j : Job) → parts_of_run taken ≡ early ++ p ∷ late
      → Contains (happenings (early ++ p ∷ [])) (put j)
      → list_any (is_deletion j.id) (happenings (early ++ p ∷ [])) ≡ false → IsKept j p.machine
  -- At most one client holds a job, and it is connected.
  pub held : (p : Part) → Contains (parts_of_run taken) p → IsHeldByOne p.machine
  -- DELETED goes to the client that asked, for a job that no other client held.
  pub deleted : (t : Transition) (seat : ℕ) → Contains taken t → Contains t.given (seat, Deleted) → IsDeletion t seat
  -- From the step that begins to drain, no put is accepted; nor is one after the last id was given.
  pub drained : (early more : List Transition) (t : Transition) → taken ≡ early ++ t ∷ more → t.entry.what ≡ Drain
      → has_inserted (flat_map (λ (u : Transition). u.given) (t ∷ more)) ≡ false
  pub last_id_given : (early more : List GivenAnswer) (seat : ℕ)
      → flat_map (λ (u : Transition). u.given) taken ≡ early ++ (seat, Inserted last_id) ∷ more → has_inserted more ≡ false

-- What happens to jobs in this very run.
abbrev pub AreJobsServedIn : {settings : Settings} {readings : List (Option ℕ)} {history : List Entry} {given : List GivenAnswer}
    {last : Machine} → IsRun settings readings history given last → Type 0
AreJobsServedIn run = AreJobsServed run.runs.1.taken (happenings (parts_of_run run.runs.1.taken))

-- One list of all clients' steps, and everything that is promised of it.
pub record HeadlineHolds (settings : Settings) (doors : List (List LineOver)) (control : List ℕ) (failed : Bool)
    (readings : List (Option ℕ)) (last : Machine) : Type 0 where
  pub history : List Entry
  pub given : List GivenAnswer
  pub taken : List Transition
  -- The model takes it in one run, from a new model to `last`, and gives these answers.
  pub goes : GoesBy (new_machine settings) taken last
  pub history_is : map (λ t. t.entry) taken ≡ history
  pub given_is : flat_map (λ t. t.given) taken ≡ given
  -- Each step has the moment of a clock reading of its own.
  pub timed : IsTimedBy readings history
  -- There is a door at each seat. The history contains the steps of its connections, and each
  -- client received exactly the bytes of the answers to it.
  pub many : length doors ≡ settings.seats
  pub of_doors : AreDoorsOwed settings.max_job_size 0 doors history given
  -- The control line has the seat after those of the doors, and no other seat has a step.
  pub of_control : IsControlDone control failed (steps_at settings.seats history)
  pub of_nobody_else : AreSeatsUpTo settings.seats history
  pub jobs : AreJobsServed taken (happenings (parts_of_run taken))

-- The same for a lone connection at a seat.
pub record LineHeadlineHolds (settings : Settings) (seat : ℕ) (line : LineOver) (readings : List (Option ℕ)) : Type 0 where
  pub history : List Entry
  pub given : List GivenAnswer
  pub taken : List Transition
  pub last : Machine
  pub goes : GoesBy (new_machine settings) taken last
  pub history_is : map (λ t. t.entry) taken ≡ history
  pub given_is : flat_map (λ t. t.given) taken ≡ given
  pub timed : IsTimedBy readings history
  pub of_line : AreLinesOwed settings.max_job_size (line ∷ []) (steps_at seat history) (answers_to seat given)
  pub of_nobody_else : IsTrue (list_all (λ e. e.seat == seat) (without_ticks history))
  pub jobs : AreJobsServed taken (happenings (parts_of_run taken))
