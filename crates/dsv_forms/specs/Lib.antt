pub mod FallForm
pub mod OfferLaws
pub mod Padded
pub mod Poly
pub mod Refusals
pub mod Sums
