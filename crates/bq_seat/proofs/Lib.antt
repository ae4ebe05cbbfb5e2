pub mod MoveLemmas
pub mod NextByPastLemmas
pub mod OpenLemmas
pub mod OrderlyLemmas
pub mod StepLemmas
pub mod StepsSoFarLemmas
