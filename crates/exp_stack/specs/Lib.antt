pub mod Group
pub mod ListParts
