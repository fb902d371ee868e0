pub mod Week
pub mod Told
pub mod Figure
pub mod Lists
pub mod Claims
pub mod Private
