pub mod BeginLemmas
pub mod DoorLemmas
pub mod WaitLemmas
