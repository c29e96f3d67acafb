pub mod Holds
pub mod Routines
pub mod FieldCodes
pub mod RoutineCodes
pub mod Tests
pub mod Laws
