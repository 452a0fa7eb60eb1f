pub mod LossLemmas
pub mod StateChains
pub mod StateLines
pub mod StateNets
pub mod StateOffers
pub mod StateRuns
pub mod StateWords
pub mod WorkedStates
