pub mod Scaling
pub mod Sizes
pub mod Naming
pub mod BoundLemmas
pub mod RunTurns
pub mod Runs
pub mod NodePlaces
