pub mod Counting
pub mod Adding
pub mod Beginning
pub mod Calling
pub mod Asking
pub mod Stopping
pub mod Recording
pub mod Going
mod Spent
mod Calls
