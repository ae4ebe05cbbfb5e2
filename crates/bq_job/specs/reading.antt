-- The requests that the bytes of a connection contain.
pub mod CommandWords
pub mod Line
pub mod LineRead
pub mod Reading
pub mod TubeName
pub mod Words
