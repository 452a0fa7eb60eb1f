pub mod Beginnings
pub mod Grammar
pub mod Parsing
