pub mod Walks
pub mod StringClauses
pub mod StringTable
pub mod Bounds
