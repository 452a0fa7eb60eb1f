pub mod Companion
pub mod Falling
pub mod Floor
pub mod Gcd
pub mod Narrow
pub mod Squares
pub mod Vectors
