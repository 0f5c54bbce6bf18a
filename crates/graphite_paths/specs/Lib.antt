pub mod Answer
pub mod Crossing
pub mod Durations
pub mod Forward
pub mod Next
pub mod Start
pub mod Turned
