pub mod Examples
pub mod Reads
