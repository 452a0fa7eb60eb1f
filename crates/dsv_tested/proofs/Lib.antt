pub mod Evens
pub mod CommonTwos
pub mod Signs
pub mod ListPolynomials
pub mod Denominators
pub mod TestedCoefficients
pub mod WordSizes
