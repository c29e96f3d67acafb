pub mod Loops
pub mod TreeClauses
pub mod PatternClauses
pub mod TreeTable
