pub mod Lead
pub mod Reduced
pub mod Tested
