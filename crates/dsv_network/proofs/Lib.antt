mod Masses
mod Bounds
mod Widening
mod Walks
mod Solutions
mod Rounded
mod Nodes
pub mod Values
mod Walking
mod SampleRanges
pub mod Passes
pub mod Symbols
pub mod Holding
pub mod Finds
pub mod Depths
pub mod Forgetting
mod Steps
pub mod Loops
