pub mod Group
pub mod TableParts
