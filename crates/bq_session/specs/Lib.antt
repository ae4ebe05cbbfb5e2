pub mod Clients
pub mod Sessions
