pub mod Emulated
pub mod Following
