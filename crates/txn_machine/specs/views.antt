pub mod Layer
pub mod Parts
pub mod Steps
