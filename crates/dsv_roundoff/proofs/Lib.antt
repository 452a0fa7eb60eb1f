pub mod Scaling
pub mod Existence
pub mod NoErrors
pub mod Differences
mod ExactSamples
mod ExactLines
pub mod ExactChains
mod ExactForms
mod ExactSteps
pub mod WrittenRuns
pub mod OneWrittenRun
pub mod Controllers
pub mod Worked
