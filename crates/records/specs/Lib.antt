pub mod RecordCall
pub mod Private
