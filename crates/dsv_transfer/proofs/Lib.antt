pub mod Readings
pub mod Expansions
pub mod Lines
pub mod Chains
pub mod Shapes
pub mod SeenRuns
pub mod Forms
pub mod Transfers
