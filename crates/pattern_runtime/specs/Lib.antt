pub mod Group
pub mod PatternParts
