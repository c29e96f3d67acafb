pub mod SourceNames
pub mod CheckedPrograms
pub mod CheckStops
pub mod Inputs
pub mod HeldInputs
