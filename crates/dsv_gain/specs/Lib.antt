pub mod Networks
pub mod Gains
pub mod Boxes
pub mod Narrowing
pub mod Safe
pub mod Errors
pub mod Near
pub mod Subjects
