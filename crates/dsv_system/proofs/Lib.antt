pub mod Agreeing
pub mod QuietRuns
pub mod RunLemmas
pub mod Words
