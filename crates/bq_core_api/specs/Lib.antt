pub mod Answered
pub mod Codes
pub mod Cost
pub mod Limits
pub mod Outbox
