pub mod Floors
pub mod Meanings
pub mod Powers
