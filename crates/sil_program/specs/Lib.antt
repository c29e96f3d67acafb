pub mod Statements
pub mod Built
pub mod TableFaults
pub mod Specials
pub mod Programs
pub mod ProgramLaws
pub mod Verdicts
pub mod HeldPrograms
