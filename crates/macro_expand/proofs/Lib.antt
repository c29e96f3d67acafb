mod Groups
mod Growing
mod Stepping
mod Whole
mod Halves
mod Entering
mod Returning
mod Costs
mod Running
pub mod Locating
