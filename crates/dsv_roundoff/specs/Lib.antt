pub mod Differences
pub mod Exact
pub mod Laws
pub mod Written
