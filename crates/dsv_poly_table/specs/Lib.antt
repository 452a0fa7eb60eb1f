pub mod Recursion
pub mod Sections
pub mod Shown
