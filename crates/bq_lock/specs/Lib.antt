pub mod LockedDesks
pub mod LockedRuns
pub mod LockedState
pub mod LockedSteps
pub mod Rung
