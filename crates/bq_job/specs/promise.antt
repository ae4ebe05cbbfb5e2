-- What a run promises: one history of all clients' steps, and what each connection is owed along
-- it; once it has ended, and so far.
pub mod ControlDid
pub mod CoreDid
pub mod Headline
pub mod History
pub mod LineOwed
pub mod LineSteps
pub mod Runs
pub mod SoFar
pub use ControlDid.{drain_word, are_same, one_if, drains_from, drains, IsControlDone}
pub use CoreDid.{IsRun}
pub use Headline.{IsDoorOwed, AreDoorsOwed, AreSeatsUpTo, IsHistoryOf, IsHistoryOfLine}
pub use History.{LineOver, is_tick, without_ticks, steps_at, moment_heard, moments_heard, last_heard, ArePickedFrom, IsTimedFrom, IsTimedBy}
pub use LineOwed.{IsLineOwed, AreLinesOwed}
pub use LineSteps.{LineSeen, LineHeard, heard, is_waiting_request, ends_by_wait, IsOverBy, MayTellEnd, IsStepsOfLine, answers_text}
pub use LineSteps.{IsBeginning, IsCutOff, answers_wanted, wanted, answered_count, IsLastUnwritten, IsWritten, AreAllAnswered}
pub use Runs.{Entry, Parts, parts_of, Transition, IsTransition, GoesBy, RunBy, Run, answers_to}
pub use SoFar.{DoorSoFar, IsStepsSoFar, IsLineOwedSoFar, IsOutOwed, IsDoorOwedSoFar, AreDoorsOwedSoFar, IsControlSoFar, IsHistorySoFar}
pub use SoFar.{is_gone, AreAllGone}
