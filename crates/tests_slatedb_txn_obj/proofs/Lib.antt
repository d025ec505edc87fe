-- Lemmas of this crate.
pub mod Keeping
pub mod Telling
