pub mod Alternating
pub mod Heavy
pub mod Multiples
pub mod Overs
pub mod Scaling
pub mod Table
pub mod Weights
pub mod Wholes
