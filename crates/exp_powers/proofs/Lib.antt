pub mod Exponents
pub mod Raising
