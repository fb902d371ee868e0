pub mod Answer
pub mod Advice
pub mod Division
pub mod Doubles
pub mod Run
pub mod Version
pub mod Week
