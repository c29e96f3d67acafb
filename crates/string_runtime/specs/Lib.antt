pub mod Group
pub mod StringParts
