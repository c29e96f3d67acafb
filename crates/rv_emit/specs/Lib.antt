pub mod Parts
pub mod Represents
pub mod Code
pub mod StatementPlaces
pub mod Carries
pub mod Emits
pub mod Planned
