pub mod GoneLemmas
pub mod LinkedLemmas
pub mod SettleLemmas
pub mod ThreadLemmas
