pub mod CharacterCells
pub mod DataFields
pub mod Cells
pub mod DataFaults
pub mod Laws
