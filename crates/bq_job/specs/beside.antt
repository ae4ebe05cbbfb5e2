-- Definitions that the headline does not need: those of other contracts, and those that only proofs
-- use.
pub mod BodySoFar
pub mod ClientGets
pub mod Closings
pub mod Codes
pub mod Computed
pub mod ComputedReading
pub mod ComputedRuns
pub mod KeptBytes
pub mod Lawful
pub mod NameOrder
pub mod NextDue
pub mod NumberedBytes
pub mod Refusals
pub mod Replay
pub mod SameRequests
pub mod SeatDid
pub mod StepBody
pub mod Ties
pub use ClientGets.{owing, GetsWhatWaits, GetsAnswer, GetsAtMost, GetsClosed, GivesClient}
pub use Closings.{closes, closings}
pub use Codes.{refusal_code, answer_code}
pub use Computed.{Served, unserved, after_given, handed_to, handed_out, dispatched, ended_at, wait_ended, waiting_count, after_dispatch}
pub use Computed.{after_wait_ends, after_serving, after_act, ample, stepped}
pub use ComputedReading.{put_request, unit_after, unit_of_line, first_unit, onto_reading, reading_within, reading}
pub use ComputedRuns.{transition, transitions, machine_after}
pub use Lawful.{AreIdsWithin, has_open_holder, counters, has_one, none_twice, watches_once, IsLawful}
pub use NameOrder.{is_in_order}
pub use NextDue.{dues_of_state, dues_of_pause, dues_of_until, dues_of_wait, dues, earlier, earliest, next_due, is_before}
pub use Refusals.{is_refusal, ChangesNothing}
pub use Replay.{entry_of, outcome_of}
pub use SameRequests.{had_memory, IsRefusedMemory, IsSameRequest, AreSameRequests}
pub use SeatDid.{IsNoneUnwritten, IsLineServed, AreLinesServed, IsSeatDone}
pub use StepBody.{request_has_body, has_body}
pub use Ties.{AreTied, IsJoined, IsLineJoined}
