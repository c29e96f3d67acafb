pub mod RecordVisits
pub mod ReadBack
pub mod RecordKeeps
pub mod RecordLaws
