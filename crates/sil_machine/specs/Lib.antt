pub mod KeptUnits
pub mod MachineParts
pub mod MachineSites
pub mod UnitStatements
pub mod Positions
pub mod Outcomes
