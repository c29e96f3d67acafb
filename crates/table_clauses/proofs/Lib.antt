pub mod Walking
pub mod TablesKept
pub mod StreamsKept
pub mod SyntaxVisits
pub mod SyntaxLaws
