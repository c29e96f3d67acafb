pub mod Numbered
pub mod Tapes
pub mod RunEnds
pub mod Answers
pub mod Units
pub mod Calls
pub mod Slots
pub mod Attached
