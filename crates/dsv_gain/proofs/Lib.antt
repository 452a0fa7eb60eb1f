mod Values
mod WordRuns
mod Pasts
mod Symbols
mod PastLoops
mod BoxRuns
mod Gains
mod BoxLoops
mod ErrorLoops
pub mod Errors
pub mod Near
mod Depths
mod Narrowed
pub mod GainLaws
mod FirstPass
mod NarrowingLoops
pub mod Equations
