pub mod Delivery
pub mod EndChanges
pub mod EndStates
pub mod Inside
pub mod Looks
pub mod NewEnds
pub mod Submissions
pub mod Ticks
