pub mod Cascades
pub mod Netlists
pub mod Sections
pub mod Sizes
pub mod Stability
pub mod Subjects
