-- What private functions and proofs need. A reader needs none of it: of `order_for` the claim `entries` says all (Claims.antt).
pub mod Order
pub mod Positive
