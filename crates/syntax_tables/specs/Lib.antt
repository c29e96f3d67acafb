pub mod TableTexts
pub mod Sayings
pub mod TableFiles
pub mod Numbers
pub mod Going
pub mod Tables
