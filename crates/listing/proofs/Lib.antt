pub mod NumberTexts
pub mod EndsInDecimal
pub mod Lengths
pub mod Putting
pub mod Lines
