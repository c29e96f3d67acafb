pub mod Group
pub mod SpecParts
