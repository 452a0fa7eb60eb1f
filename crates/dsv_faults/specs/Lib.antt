pub mod FieldFaults
pub mod FirstFaults
pub mod PlantBeginnings
pub mod PlantFaults
pub mod Types
