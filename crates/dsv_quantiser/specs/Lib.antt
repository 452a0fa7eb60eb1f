pub mod QuantisedView
pub mod Leading
pub mod Meaning
pub mod Modes
pub mod Parts
pub mod Quantising
