pub mod Allowed
pub mod Locations
