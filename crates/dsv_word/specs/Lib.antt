pub mod Quotients
pub mod Width
pub mod Words
