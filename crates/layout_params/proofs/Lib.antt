pub mod LegalLayouts
pub mod PackingLemmas
pub mod EntryLemmas
pub mod FaultLemmas
pub mod LegalLemmas
pub mod SymbolLemmas
