pub mod Figures
pub mod Exploring
