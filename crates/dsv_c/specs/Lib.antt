pub mod Syntax
pub mod Meaning
pub mod Programs
pub mod Codable
pub mod Law
