pub mod Booleans
pub mod TextLemmas
pub mod FieldLemmas
pub mod CardLemmas
pub mod ReadLemmas
pub mod AsciiLemmas
pub mod LoadLemmas
pub mod LineLaws
