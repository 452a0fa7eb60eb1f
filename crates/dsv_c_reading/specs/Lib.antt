pub mod Machines
pub mod Lexemes
pub mod Items
pub mod Expressions
pub mod Bodies
pub mod Units
pub mod Labels
pub mod Law
