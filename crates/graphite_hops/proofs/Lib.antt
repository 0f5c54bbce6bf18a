pub mod DepartureLemmas
mod Examples
pub mod HopLemmas
pub mod JourneyLemmas
pub mod LinkLemmas
pub mod MirrorLemmas
pub mod PairedLemmas
pub mod PartLemmas
pub mod TravelLemmas
pub mod WithinLemmas
