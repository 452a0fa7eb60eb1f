pub mod Constants
pub mod Digits
pub mod Pairs
pub mod Parts
pub mod Ready
pub mod Rules
pub mod Simple
