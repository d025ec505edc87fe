pub mod Findings
pub mod Halts
pub mod Hands
pub mod Names
pub mod Removed
pub mod Sights
pub mod Times
