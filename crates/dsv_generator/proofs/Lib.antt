pub mod Words
pub mod Polynomials
pub mod Sums
pub mod Turns
pub mod Runs
