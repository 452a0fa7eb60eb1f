pub mod Accepted
pub mod Entries
pub mod Exact
pub mod Places
pub mod Sizes
