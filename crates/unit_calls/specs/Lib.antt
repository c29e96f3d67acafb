pub mod CallsMade
pub mod Printing
