pub mod Titles
pub mod Digests
pub mod FileBytes
pub mod Files
pub mod LaterFiles
pub mod JobTexts
pub mod Views
