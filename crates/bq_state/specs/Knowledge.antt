-- What is known without a search: that it is true, and how it changes.
use Rattle.std.specs.Prelude.{Bool, List, None, Option, [], count_by, if◌then◌else◌, length, nat_lt, not, ℕ, ◌&&◌, ◌≡◌}
use Rattle.bq_job.specs.{declared.job.Job.Job, machine.{SeatRecord, TubeRecord, is_ready_state}}
use Rattle.bq_jobs.specs.declared.numbered_jobs.{JobMove.JobMove, JobRemoval.JobRemoval}
use Rattle.bq_state.specs.{FirstTimeouts.{AreTimeouts, timeout_after}, Leaving.gone_of, MaybeGoneTubes.{AreAlive, with_existing, with_gone}}
use Rattle.bq_state.specs.{Offers.is_waited_at, SeatStates.seat_passes, Tallies.{count_with, count_without, tally_left, tally_moved}}
use Rattle.bq_state.specs.{Tallies.{tally_of, tally_with}, TubeEntries.counted, TubesSeen.TubesSeen, WaitingList.WaitingList}
use Rattle.bq_state.specs.{WantedJobs.{AreKnown, wanted_after_seat, with_wanted}, Warnings.{AreWarned, warned_by_seat}}
use Rattle.bq_state.specs.{Warnings.with_holder_of, declared.{known.Known.Known, seats.SeatChange.SeatChange, tubes.entry.Roles.Roles}}
use Rattle.bq_state.specs.declared.known.first_timeout.FirstTimeout.TheVariants as ends
use Rattle.bq_state.specs.declared.known.maybe_gone.MaybeGone.TheVariants as gone_tubes
use Rattle.bq_state.specs.declared.known.wanted.Wanted.TheVariants as wanted_jobs
use Rattle.bq_state.specs.declared.known.warns.Warns.TheVariants as holders

-- What is known is true of these jobs and seats, and of the tubes with these records.
pub record IsSo (k : Known) (jobs : List Job) (seats : List SeatRecord) (entries : List TubeRecord) : Type 0 where
  -- how many of the jobs are in each state
  pub tally : k.tally ≡ tally_of jobs
  -- how many clients are connected
  pub connected : k.connected ≡ count_by (λ s. s.connected) seats
  -- which entries may be of tubes that have gone
  pub alive : AreAlive k.maybe_gone jobs seats entries
  -- which jobs waiting clients may have
  pub wanted_jobs : AreKnown k.wanted jobs seats (counted entries)
  -- which waiting clients may hold a job
  pub warnings : AreWarned k.warns jobs seats
  -- when the first wait times out
  pub timeouts : AreTimeouts k.first_timeout seats

-- what is known if there is nothing
abbrev pub nothing_known : Known
nothing_known = record {
  tally = tally_of [];
  connected = 0;
  maybe_gone = gone_tubes.Nothing;
  wanted = wanted_jobs.Nothing;
  warns = holders.Nothing;
  first_timeout = ends.Known None;
}

-- with one more job; whether it is wanted, and whether its holder waits, is given
abbrev pub with_job : Job → Bool → Bool → Known → Known
with_job j is_wanted waits k = record k {
  tally = tally_with j k.tally;
  maybe_gone = with_existing j.tube k.maybe_gone;
  wanted = if is_wanted then with_wanted j.tube k.wanted else k.wanted;
  warns = if waits then with_holder_of j.state k.warns else k.warns;
}

-- with one job fewer, from the report about it; whether a client uses or watches its tube is given
abbrev pub with_removal : JobRemoval → Bool → Known → Known
with_removal r has_seats k = record k {
  tally = tally_left r.at k.tally;
  maybe_gone = if not has_seats then with_gone r.tube k.maybe_gone else k.maybe_gone;
}

-- whether a changed job is ready and a client waits for jobs of its tube
abbrev pub is_wanted_by : WaitingList → TubesSeen → JobMove → Bool
is_wanted_by waiting tubes m = is_ready_state m.to.state && (nat_lt 0 (length waiting.waiters) && is_waited_at m.tube tubes)

-- and with a job changed
abbrev pub with_moved : JobMove → Bool → Bool → Known → Known
with_moved m is_wanted waits k = record k {
  tally = tally_moved m k.tally;
  wanted = if is_wanted then with_wanted m.tube k.wanted else k.wanted;
  warns = if waits then with_holder_of m.to.state k.warns else k.warns;
}

-- when a seat, if there is one, is about to change
abbrev pub with_left : Option SeatRecord → SeatChange → Roles → TubesSeen → Known → Known
with_left o what touched tubes k = record k {
  connected = count_without (seat_passes (λ s. s.connected) o) k.connected;
  first_timeout = timeout_after what o k.first_timeout;
  maybe_gone = gone_of touched tubes o k.maybe_gone;
}

-- after it has changed
abbrev pub with_joined : Option SeatRecord → ℕ → SeatChange → Known → Known
with_joined o number what k = record k {
  connected = count_with (seat_passes (λ s. s.connected) o) k.connected;
  wanted = wanted_after_seat number what k.wanted;
  warns = warned_by_seat number what k.warns;
}
