pub mod Breaking
pub mod Causes
pub mod Formulas
pub mod Limits
pub mod Netlists
pub mod Obstacles
pub mod Sets
pub mod Shapes
