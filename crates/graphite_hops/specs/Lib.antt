pub mod Arcs
pub mod Departures
pub mod Hops
pub mod Links
pub mod Mirror
pub mod Paired
