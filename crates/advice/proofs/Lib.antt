pub mod Enough
pub mod Test
pub mod TakenUp
pub mod TailBound
pub mod Upper
pub mod Advising
