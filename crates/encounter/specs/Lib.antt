pub mod Session
pub mod Calls
pub mod Enclosure
pub mod Stars
pub mod Claims
pub mod Mantissas
pub mod Sums
pub mod Private
