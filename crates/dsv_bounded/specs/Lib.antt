pub mod Formulas
pub mod Questions
pub mod Refusals
pub mod RunAnswers
pub mod RunQuestions
pub mod Verdicts
