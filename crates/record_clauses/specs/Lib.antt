pub mod RecordClauses
pub mod RecordTable
