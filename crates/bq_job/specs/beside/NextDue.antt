-- The moment at which something happens by itself.
use Rattle.std.specs.Prelude.{ℕ, Bool, true, ◌-◌, nat_lt, min, if◌then◌else◌, List, [], ◌∷◌, ◌++◌, flat_map, Option, Some, None}
use Rattle.bq_job.specs.{declared.job.JobState.JobState, machine.{Pause, Wait, is_waiting_at, Machine.Machine}}
use Rattle.bq_job.specs.declared.job.JobState.TheVariants as states

-- A delayed job becomes ready at its due moment. A reserved job's time to run ends at its deadline,
-- and one second before it a wait of its holder ends.
abbrev pub dues_of_state : Machine → JobState → List ℕ
dues_of_state m states.Ready = []
dues_of_state m (states.Delayed due) = due ∷ []
dues_of_state m (states.Reserved seat deadline) =
    let soon = deadline - 1000 in if is_waiting_at seat m then soon ∷ deadline ∷ [] else deadline ∷ []
dues_of_state m (states.Buried number) = []

-- a pause ends
abbrev pub dues_of_pause : Option Pause → List ℕ
dues_of_pause None = []
dues_of_pause (Some pause) = pause.until ∷ []

abbrev pub dues_of_until : Option ℕ → List ℕ
dues_of_until None = []
dues_of_until (Some until) = until ∷ []

-- a waiting client times out
abbrev pub dues_of_wait : Option Wait → List ℕ
dues_of_wait None = []
dues_of_wait (Some wait) = dues_of_until wait.until

-- all moments at which something is due
abbrev pub dues : Machine → List ℕ
dues m =
    flat_map (λ j. dues_of_state m j.state) m.jobs
    ++ flat_map (λ t. dues_of_pause t.pause) m.tubes
    ++ flat_map (λ s. dues_of_wait s.wait) m.seats

abbrev pub earlier : ℕ → Option ℕ → ℕ
earlier due None = due
earlier due (Some other) = min due other

abbrev pub earliest : List ℕ → Option ℕ
earliest [] = None
earliest (due ∷ others) = Some (earlier due (earliest others))

-- the earliest of them; before it nothing happens by itself
abbrev pub next_due : Machine → Option ℕ
next_due m = earliest (dues m)

-- the moment is before the next due one, or nothing is due
abbrev pub is_before : ℕ → Option ℕ → Bool
is_before moment None = true
is_before moment (Some due) = nat_lt moment due
