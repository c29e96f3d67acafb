pub mod ClauseLaws
pub mod Alone
pub mod Runs
pub mod Steady
