pub mod Alike
pub mod BrokenRuns
pub mod Causes
pub mod Sentences
pub mod Stepwise
pub mod SomeWords
