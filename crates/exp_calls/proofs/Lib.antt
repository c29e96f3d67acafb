pub mod Grouping
pub mod Answering
pub mod Framing
pub mod Calling
pub mod ReturnClause
pub mod SavedTops
pub mod ReturnParts
pub mod Returning
