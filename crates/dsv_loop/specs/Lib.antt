pub mod Loops
pub mod Recursion
