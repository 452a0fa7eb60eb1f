pub mod Justification
pub mod Levels
pub mod MarkListInside
pub mod MarkListView
pub mod Marks
pub mod Places
pub mod TrailInside
pub mod TrailView
