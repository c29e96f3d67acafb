pub mod CallHalves
pub mod CallParts
pub mod CallOperands
pub mod Group
pub mod ReturnParts
