pub mod ControlCharacters
pub mod CostLines
pub mod Digests
pub mod LineParts
pub mod Texts
pub mod WordLines
