pub mod Private
pub mod Doubles
pub mod Plot
pub mod Lists
