pub mod Group
pub mod NodeOperands
pub mod TreeParts
