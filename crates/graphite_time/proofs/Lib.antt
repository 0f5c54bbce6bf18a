pub mod LifeLemmas
pub mod MeetLemmas
pub mod MirrorLemmas
