pub mod Rounds
pub mod Collecting
