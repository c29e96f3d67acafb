mod LoopLaws
mod Since
mod NodeLaws
mod PatternLaws
mod GreatPowers
pub mod TreeLaws
