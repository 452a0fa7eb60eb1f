pub mod Recursions
pub mod Findings
