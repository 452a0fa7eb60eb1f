pub mod Members
pub mod Code
pub mod Law
