pub mod Running
pub mod Owning
pub mod Acting
pub mod Stepping
pub mod Reached
