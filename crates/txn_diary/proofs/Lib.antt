pub mod Turned
pub mod Replied
pub mod Started
mod PageBounds
pub mod Kept
pub mod Forgetting
pub mod Places
pub mod Sound
pub mod Diaries
pub mod Killing
pub mod Noting
pub mod Acting
pub mod Starting
pub mod Listing
pub mod Stepping
