pub mod Numbers
pub mod Digits
pub mod LineLemmas
pub mod Searches
