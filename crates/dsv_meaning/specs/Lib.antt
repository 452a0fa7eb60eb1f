pub mod Equations
pub mod Lines
pub mod Replays
pub mod Stepping
pub mod Summands
pub mod Systems
pub mod Traces
