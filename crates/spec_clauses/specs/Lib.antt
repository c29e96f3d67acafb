pub mod SpecifierClauses
pub mod SpecTable
