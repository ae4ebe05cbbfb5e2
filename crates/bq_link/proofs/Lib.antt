pub mod DeliveryLemmas
pub mod LookLemmas
pub mod NewLemmas
pub mod PassLemmas
pub mod RingLemmas
pub mod SubmissionLemmas
