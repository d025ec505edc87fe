pub mod Recorded
pub mod Serving
pub mod Opening
