pub mod Binomials
pub mod Deltas
pub mod Differences
pub mod Running
pub mod ZCoefficients
