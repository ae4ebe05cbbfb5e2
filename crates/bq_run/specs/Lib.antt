pub mod Linked
pub mod ThreadRuns
pub mod Threads
