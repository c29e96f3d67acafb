pub mod Made
pub mod ArgLemmas
