pub mod FirstQuotients
pub mod Labels
pub mod NumberLemmas
pub mod Padding
pub mod PlantTexts
pub mod TextLaws
pub mod ValueLaws
