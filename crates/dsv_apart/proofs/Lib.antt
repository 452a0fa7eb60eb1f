pub mod Bounds
pub mod LastPlace
pub mod Apart
