pub mod Cuts
pub mod Each
pub mod Lists
pub mod Quotes
pub mod SpelledBytes
pub mod Sound
pub mod Complete
pub mod Exact
