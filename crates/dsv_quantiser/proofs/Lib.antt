pub mod Converted
pub mod Formats
pub mod Leading
pub mod Listing
pub mod Modes
pub mod Ranges
