pub mod ByTime
pub mod Pace
pub mod Places
pub mod Rings
pub mod Seen
