pub mod EndLemmas
pub mod SeatWorkLemmas
pub mod SendingLemmas
pub mod TurnLemmas
pub mod WorkedLemmas
