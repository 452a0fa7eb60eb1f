pub mod Images
pub mod Lists
pub mod Outputs
pub mod Polynomials
pub mod Shown
