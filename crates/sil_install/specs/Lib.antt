pub mod Installed
pub mod Ways
pub mod Law
pub mod Emission
pub mod TableBytes
