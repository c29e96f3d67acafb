pub mod OperandGrammar
pub mod Limits
pub mod OperandReading
pub mod Simple
