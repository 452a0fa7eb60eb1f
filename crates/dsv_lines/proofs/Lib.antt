pub mod Cuts
pub mod LineCounts
pub mod NumeralBounds
pub mod PieceLemmas
pub mod ReadLines
pub mod ReadNumerals
pub mod WrittenLines
pub mod WrittenNumerals
