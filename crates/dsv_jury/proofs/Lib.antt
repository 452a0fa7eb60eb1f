pub mod Factors
pub mod Meaning
pub mod Rows
pub mod Verdicts
