pub mod Lexing
pub mod Memory
pub mod Names
pub mod Pieces
pub mod Text
