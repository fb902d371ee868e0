-- What only private functions and proofs need. A reader of the claims needs none of it.
pub mod Held
pub mod Loops
pub mod Operations
