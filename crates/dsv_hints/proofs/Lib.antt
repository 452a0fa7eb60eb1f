pub mod AcceptedIds
pub mod LessonLemmas
pub mod MoveLemmas
pub mod Moves
pub mod SlotLemmas
pub mod Soundness
pub mod Starting
