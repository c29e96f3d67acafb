pub mod Turns
pub mod Room
pub mod StringKeeps
pub mod StringVisits
pub mod StringLaws
