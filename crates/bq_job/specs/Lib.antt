pub mod beside
pub mod laws
pub mod machine
pub mod promise
pub mod reading
pub mod texts
pub mod Types
