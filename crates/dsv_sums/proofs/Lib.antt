pub mod Acceptance
pub mod Agreement
pub mod Filled
pub mod Leftovers
pub mod SearchLemmas
pub mod StepLemmas
