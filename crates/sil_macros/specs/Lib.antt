pub mod OperandPlaces
pub mod MacroRows
pub mod Macros
