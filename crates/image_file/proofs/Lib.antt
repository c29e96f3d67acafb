pub mod Agreement
pub mod ByteNumbers
pub mod Files
pub mod Fitting
pub mod PartRules
pub mod Parts
pub mod SpelledEntries
pub mod Stops
