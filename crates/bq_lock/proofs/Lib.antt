pub mod DeliveryLemmas
pub mod FaultLemmas
pub mod LastPartLemmas
pub mod LockedLemmas
pub mod PostLemmas
pub mod RungLemmas
