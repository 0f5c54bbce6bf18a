pub mod LineLemmas
pub mod SumLemmas
pub mod SummaryLemmas
pub mod ThroughLemmas
pub mod StepLemmas
pub mod PathLemmas
mod WorkedReports
