pub mod Entries
pub mod Wholes
pub mod Searching
pub mod Cases
