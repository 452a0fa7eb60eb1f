pub mod Blast
pub mod CircuitView
pub mod Gates
pub mod Words
pub mod Pushing
pub mod PlacesInside
