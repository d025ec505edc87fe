pub mod Durations
pub mod Epochs
pub mod Lines
pub mod Numbers
pub mod Parts
pub mod Texts
pub mod touches
