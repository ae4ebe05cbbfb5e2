mod KnownLemmas
mod ListingLemmas
mod RowLemmas
mod ServingLemmas
mod SoFarLemmas
mod WaitingLemmas
