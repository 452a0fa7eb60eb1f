pub mod ClosedForm
pub mod Entries
pub mod SmallCoefficients
