pub mod FrequentLemmas
pub mod HasReadLemmas
pub mod LineEndLemmas
pub mod ReaderLemmas
pub mod WordLemmas
