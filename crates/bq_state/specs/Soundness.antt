-- The invariants of a core's state.
use Rattle.std.{proofs.Props.props, specs.{Coded.{Unit-prop, le_prop, ×_prop}, List.AllByRecursion, Prelude.{Bool, List, [], false, ℕ}}}
use Rattle.std.specs.Prelude.{◌∷◌, ◌≡◌, ◌≤◌}
use Rattle.bq_job.specs.{beside.AreIdsWithin, declared.job.Job.Job, machine.{SeatRecord, TubeRecord, last_id}}
use Rattle.bq_state.specs.{Counting.AreCounted, Crowds.IsSeated, FirstTimeouts.AreTimeouts, Knowledge.IsSo, SeatChanges.AreNumbered}
use Rattle.bq_state.specs.{TubeEntries.{AreEntries, AreInOrder}, TubesSeen.{TubesSeen, records}, WaitingList.{AreInTurn, WaitingList}}
use Rattle.bq_state.specs.declared.known.{Known.Known, first_timeout.FirstTimeout.FirstTimeout}
use Rattle.bq_state.specs.declared.known.first_timeout.FirstTimeout.TheVariants as ends

-- The fields of a state agree with each other: the jobs, seats and tubes, and what is kept besides
-- them.
pub record Soundness (jobs : List Job) (seats : List SeatRecord) (tubes : TubesSeen) (waiters : WaitingList) (k : Known)
    (next_id : ℕ) (draining : Bool) : Type 0 where
  pub entries : AreEntries jobs seats (records tubes)
  -- The counts of the tubes are those of the jobs and the seats.
  pub counts : AreCounted jobs seats tubes.entries
  -- Seats are numbered in order.
  pub numbered : AreNumbered seats
  -- The model drains before the ids run out.
  pub next : draining ≡ false → next_id ≤ last_id
  -- Each id was given out once.
  pub ids : AreIdsWithin 1 jobs next_id
  -- The waiting clients are in order of their tickets.
  pub waiting : AreInTurn waiters seats
  pub seated : AllByRecursion IsSeated seats
  -- What is known without a search is true.
  pub known : IsSo k jobs seats (records tubes)

AreInOrder-prop : (entries : List TubeRecord) → IsProp (AreInOrder entries)
AreInOrder-prop [] = Unit-prop
AreInOrder-prop (t ∷ entries) = ×_prop (Prim.hlevel props) (AreInOrder-prop entries)

AreIdsWithin-prop : (low : ℕ) (jobs : List Job) (next : ℕ) → IsProp (AreIdsWithin low jobs next)
AreIdsWithin-prop low [] next = le_prop
AreIdsWithin-prop low (j ∷ jobs) next = ×_prop le_prop (AreIdsWithin-prop _ jobs next)

AreTimeouts-prop : (first_timeout : FirstTimeout) (seats : List SeatRecord) → IsProp (AreTimeouts first_timeout seats)
AreTimeouts-prop ends.Unknown seats = Unit-prop
AreTimeouts-prop (ends.Known first) seats = Prim.hlevel props

-- It has at most one proof, so a field can hold it.
pub Soundness-prop : (jobs : List Job) (seats : List SeatRecord) (tubes : TubesSeen) (waiters : WaitingList) (k : Known) → (next_id : ℕ)
    (draining : Bool) → IsProp (Soundness jobs seats tubes waiters k next_id draining)
Soundness-prop jobs seats tubes waiters k next_id draining = Prim.hlevel (props, AreInOrder-prop, AreIdsWithin-prop, AreTimeouts-prop)
