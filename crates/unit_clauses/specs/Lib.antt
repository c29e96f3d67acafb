pub mod UnitClauses
pub mod UnitTable
