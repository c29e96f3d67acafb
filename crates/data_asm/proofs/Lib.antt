pub mod TextLemmas
pub mod FitLemmas
pub mod CountLemmas
pub mod StandLemmas
