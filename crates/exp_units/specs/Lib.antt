pub mod Group
pub mod InFormats
pub mod OutputOperands
pub mod UnitMoves
pub mod UnitParts
