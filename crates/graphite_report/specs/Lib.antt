pub mod Report
pub mod Given
pub mod Written
pub mod Faults
pub mod Through
pub mod Lines
pub mod Sums
pub mod Paths
