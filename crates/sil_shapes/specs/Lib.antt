pub mod Shapes
pub mod Locations
pub mod ShapeRules
pub mod HeldSources
