-- What only private functions and proofs need. A reader of the claims needs none of it.
pub mod Made
pub mod Record
