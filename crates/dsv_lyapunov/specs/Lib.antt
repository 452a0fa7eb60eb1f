pub mod Answers
pub mod Kept
pub mod Offers
pub mod Shown
