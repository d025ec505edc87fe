mod Places
mod Ranges
pub mod Keeping
mod Due
