pub mod LayoutLemmas
pub mod LimitLemmas
pub mod PassLemmas
pub mod NumberLemmas
pub mod ReadLemmas
pub mod Sound
pub mod Complete
pub mod Exact
