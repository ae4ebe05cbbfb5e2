-- What happens to jobs and clients along any run of the model.
pub mod Happenings
pub mod LawsOfRuns
pub mod LeastJob
pub mod TheHeadline
pub mod Undisturbed
pub use Happenings.{Happening, put, handed_out, reserved_by_id, expired, released, buried, given_back, deleted, expirations, hand_out}
pub use Happenings.{hand_outs, named, given_up, taken_up, removed, change, change_or_removal, changes, Part, parts_in, parts_of_run}
pub use Happenings.{happenings}
pub use LawsOfRuns.{IsReservedById, IsDispatchedLeast, answers_before, GivesLeast, is_inserted, has_inserted, IsKept, Holds, IsHeldByOne}
pub use LawsOfRuns.{IsDeletion, RunBegins}
pub use LeastJob.{IsLeastFor, GetsLeast}
pub use TheHeadline.{AreJobsServed, AreJobsServedIn, HeadlineHolds, LineHeadlineHolds}
pub use Undisturbed.{disturbs, IsUndisturbed, is_put, is_hand_out, is_deletion, IsHandedOut, comes_first, IsPutBefore, IsHandedOutBefore}
