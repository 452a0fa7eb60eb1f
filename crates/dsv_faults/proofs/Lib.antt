pub mod Refusals
pub mod FieldLaws
pub mod FaultLaws
pub mod PlantUnexpected
pub mod PlantFaultLaws
