pub mod SpecFits
pub mod SpecLaws
