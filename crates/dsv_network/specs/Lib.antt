pub mod Samples
pub mod Gains
pub mod Runs
pub mod Laws
