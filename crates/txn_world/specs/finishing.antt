pub mod Progress
pub mod Whole
pub mod Telling
pub mod Finishing
