pub mod Dropping
pub mod Answers
pub mod Claims
pub mod Private
