pub mod Group
pub mod PowerParts
