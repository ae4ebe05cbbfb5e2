pub mod CoreWork
pub mod Ends
pub mod Flags
pub mod Rests
pub mod Sending
pub mod Worked
