pub mod RecordTexts
pub mod RecordStreams
