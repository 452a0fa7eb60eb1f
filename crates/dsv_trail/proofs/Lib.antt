pub mod Elements
pub mod Justifications
pub mod LevelLemmas
pub mod MarkLemmas
pub mod PlaceLemmas
