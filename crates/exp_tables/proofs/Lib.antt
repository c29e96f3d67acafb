pub mod Arithmetic
pub mod Effects
pub mod EntryWords
pub mod Clearing
pub mod Plugging
pub mod Parting
pub mod Walking
pub mod Streaming
