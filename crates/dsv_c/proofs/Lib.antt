pub mod HeldNumbers
pub mod Floors
pub mod Helpers
pub mod NodeSizes
pub mod Codes
pub mod Steps
pub mod CodableLemmas
