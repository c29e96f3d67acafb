pub mod ComparisonClauses
pub mod IntegerClauses
pub mod ChoiceTable
