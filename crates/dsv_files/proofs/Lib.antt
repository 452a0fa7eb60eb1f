pub mod LoggedDigests
pub mod FileBytes
pub mod LaterFiles
pub mod Told
pub mod Pairwise
pub mod TitleTokens
