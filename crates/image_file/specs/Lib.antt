pub mod ImageGrammar
pub mod TableEntries
pub mod Image
pub mod ImageReading
pub mod Spelling
pub mod Version
