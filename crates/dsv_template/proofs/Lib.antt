pub mod BoxLemmas
pub mod KeptSets
mod Lengths
pub mod Membership
