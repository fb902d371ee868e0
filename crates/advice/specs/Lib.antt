pub mod Orders
pub mod Advice
pub mod Claims
pub mod Private
