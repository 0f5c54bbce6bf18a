pub mod Status
pub mod Answer
pub mod Journeys
pub mod Output
pub mod Call
pub mod Found
