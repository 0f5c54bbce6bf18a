mod WorkedRuns
pub mod CallLemmas
pub mod MadeLemmas
pub mod SnapLemmas
pub mod PathLemmas
pub mod AskedLemmas
pub mod ToldLemmas
pub mod AcceptedLemmas
