pub mod DoorLemmas
