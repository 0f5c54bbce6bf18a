pub mod Aligned
pub mod Asked
pub mod Parts
pub mod Sorted
pub mod Sweep
pub mod Warp
