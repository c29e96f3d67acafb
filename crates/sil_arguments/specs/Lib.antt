pub mod MadeArguments
pub mod HeldScopes
pub mod ProgramStops
