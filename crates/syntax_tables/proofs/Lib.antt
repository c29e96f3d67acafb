pub mod Cuts
pub mod Lists
pub mod Readings
pub mod Filled
pub mod Counts
pub mod NumberLemmas
