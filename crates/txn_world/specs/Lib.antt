pub mod Running
pub mod Runs
pub mod Owning
pub mod Acting
pub mod Answering
pub mod Shown
pub mod Reaching
pub mod finishing
