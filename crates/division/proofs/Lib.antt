pub mod Refusing
pub mod Moving
pub mod Never
pub mod Ends
pub mod Dividing
