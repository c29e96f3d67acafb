pub mod SyntaxClauses
pub mod SyntaxTable
pub mod HaltBounds
