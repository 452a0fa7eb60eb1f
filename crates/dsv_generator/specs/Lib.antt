pub mod Controllers
pub mod Draws
pub mod Findings
pub mod Limits
pub mod Small
pub mod Tallies
