-- Lemmas of this crate.
mod Tries
mod Reading
mod Everywhere
mod Paged
mod Quiet
mod Fresh
mod Attempts
mod Work
mod Moves
mod Bounds
mod Standing
mod Unheld
mod Unraised
mod Raising
mod Advances
pub mod Calls
pub mod Counted
mod Whole
pub mod Finishing
