pub mod Costs
pub mod Table
pub mod Machine
pub mod RunLaws
pub mod StepLaws
pub mod UnitLaws
