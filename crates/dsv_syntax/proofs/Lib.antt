pub mod Binds
pub mod Completions
pub mod PlantFiles
pub mod ReadLemmas
pub mod States
pub mod Steps
pub mod TakenLemmas
pub mod UnexpectedLemmas
