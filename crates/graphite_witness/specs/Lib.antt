pub mod Answered
pub mod ByTarget
pub mod Ends
pub mod Found
pub mod Incoming
pub mod Standing
pub mod Steps
