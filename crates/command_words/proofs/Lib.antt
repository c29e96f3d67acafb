pub mod PlainWords
pub mod Taken
