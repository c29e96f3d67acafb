pub mod UnitCallLaws
pub mod UnitTableLaws
