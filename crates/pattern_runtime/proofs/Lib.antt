pub mod Words
pub mod Linking
pub mod Lowering
pub mod Searching
pub mod NodeReads
pub mod NodeWrites
pub mod NodeTurns
pub mod Copying
