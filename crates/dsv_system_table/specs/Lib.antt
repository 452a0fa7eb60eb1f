pub mod Outputs
pub mod Polynomials
pub mod Rows
pub mod SystemFindings
