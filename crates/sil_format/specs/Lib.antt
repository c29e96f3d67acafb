pub mod ItemFields
pub mod Records
pub mod Layout
pub mod FormatGrammar
pub mod FormatReading
