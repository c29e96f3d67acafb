pub mod ChoiceOperands
pub mod ChoiceLaws
