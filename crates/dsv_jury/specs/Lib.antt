pub mod CommonFactor
pub mod Jury
pub mod Rows
