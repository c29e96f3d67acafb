pub mod TableLemmas
pub mod FoundLemmas
