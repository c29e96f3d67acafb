pub mod Group
pub mod BlockParts
