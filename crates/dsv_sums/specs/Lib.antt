pub mod Elimination
pub mod Partial
pub mod SumForms
