pub mod Breaks
pub mod Cycles
pub mod OutsideValues
pub mod RowViews
pub mod Runs
pub mod Sounds
pub mod Systems
