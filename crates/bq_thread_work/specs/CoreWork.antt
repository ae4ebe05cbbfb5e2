-- What the core did in a thread of its own.
use Rattle.std.specs.Prelude.{ℕ, ◌≡◌, ◌<◌, ◌≤◌, ◌+◌, ◌++◌, ◌∷◌, not, false}
use Rattle.std.specs.Prelude.{List, [], Option, filter, map, replicate}
use Rattle.std.specs.VecDeque.{deque_capacity}
use Rattle.bq_job.specs.declared.settings.Settings.{Settings}
use Rattle.bq_job.specs.declared.step.Step.{Step}
use Rattle.bq_job.specs.declared.step.Step.TheVariants.{Gone}
use Rattle.bq_job.specs.promise.CoreDid.{IsRun}
use Rattle.bq_job.specs.machine.Dispatch.{GivenAnswer}
use Rattle.bq_job.specs.promise.History.{is_tick, without_ticks}
use Rattle.bq_job.specs.machine.Machine.{Machine, new_machine}
use Rattle.bq_job.specs.promise.Runs.{Entry, answers_to}
use Rattle.bq_link.specs.EndStates.{CoreState, sent_to}
use Rattle.bq_link.specs.Submissions.{AreBelow, steps_of}
use Rattle.bq_host.specs.Compared.{AreCompared}
use Rattle.bq_host.specs.Clocks.{Gives}
use Rattle.bq_thread_work.specs.declared.core_work.core_room.CoreRoom.{CoreRoom}

-- One of these steps of an end says that the end submits no more.
abbrev pub HasGone : List Step → Type 0
HasGone steps = (before after : List Step) × (steps ≡ before ++ Gone ∷ after)

-- the steps of a history, each with its seat, without the ticks
abbrev pub steps_made : List Entry → List (ℕ × Step)
steps_made history = map (λ e. (e.seat, e.what)) (without_ticks history)

-- the steps that are not ticks
abbrev pub no_ticks : List (ℕ × Step) → List (ℕ × Step)
no_ticks all = filter (λ t. not (is_tick t.1)) all

-- New memory for a core with this many ends.
pub record IsNewRoom (ends : ℕ) (room : CoreRoom) : Type 0 where
  pub none_kept : room.kept.items ≡ []
  pub none_aside : room.aside.items ≡ []
  pub for_kept : ends ≤ deque_capacity room.kept
  pub for_aside : ends ≤ deque_capacity room.aside
  pub none_gone : room.gone.items ≡ replicate ends false

-- A core that has ended. From the start it took the steps that arrived at its end of the links, in
-- order, and ticks of its own, each at the moment of a reading; only the ends submit steps. All
-- answers that it gave to an end were sent to it in order, and no end has more to submit. Its
-- comparisons, counted from `from` to `to`, stayed within the bounds of each step, and of one query
-- for the next due moment before each step and after the last.
pub record IsCoreDone (settings : Settings) (readings : List (Option ℕ)) (core : CoreState) (last : Machine) (from to : ℕ) : Type 0 where
  pub history : List Entry
  pub given : List GivenAnswer
  pub run : IsRun settings readings history given last
  pub taken_is : steps_made history ≡ no_ticks core.taken
  pub numbers : AreBelow (settings.seats + 1) core.taken
  pub sent_is : (seat : ℕ) → seat < settings.seats + 1 → answers_to seat given ≡ sent_to core seat
  pub all_gone : (seat : ℕ) → seat < settings.seats + 1 → HasGone (steps_of seat core.taken)
  pub compared : AreCompared (new_machine settings) history given last from to

-- A core ran to its end with a clock, which gave the readings between `first` and `clock`.
abbrev pub RanToEnd : {C : Type 0} → Gives C → Settings → C → CoreState → Machine → C → ℕ → ℕ → Type 0
RanToEnd given settings first core last clock from to =
    (readings : List (Option ℕ)) × given first readings clock × IsCoreDone settings readings core last from to
