pub mod Decimals
pub mod Faults
pub mod Heads
pub mod Inside
pub mod Limits
pub mod Reading
pub mod StateFiles
pub mod StateTexts
