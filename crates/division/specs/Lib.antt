pub mod Division
pub mod Tested
pub mod Claims
