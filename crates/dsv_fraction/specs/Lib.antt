pub mod Arithmetic
pub mod Decimal
pub mod Inside
pub mod Number
pub mod NumberText
pub mod Parts
pub mod Ratio
