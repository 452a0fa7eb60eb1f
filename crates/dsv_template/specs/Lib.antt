pub mod Boxes
pub mod Candidates
pub mod Kept
pub mod Limits
pub mod Shapes
