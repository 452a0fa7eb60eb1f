pub mod NextLine
pub mod NextPiece
pub mod Numerals
pub mod Pieces
pub mod Readings
pub mod TextCode
pub mod Texts
