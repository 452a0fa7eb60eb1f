pub mod Facts
pub mod Forms
pub mod Known
pub mod NodeIntervals
pub mod Divisions
pub mod SmallNumbers
pub mod SmallSums
pub mod Meaning
