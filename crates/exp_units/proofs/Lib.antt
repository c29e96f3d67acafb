pub mod Calling
pub mod Moving
pub mod ItemWords
pub mod Printing
pub mod FormatTexts
