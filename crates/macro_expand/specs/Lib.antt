pub mod Expanded
pub mod Steps
