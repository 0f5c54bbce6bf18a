pub mod Interval
pub mod Life
pub mod Meet
pub mod Mirror
