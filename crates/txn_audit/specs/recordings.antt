pub mod Calls
pub mod OneHistory
pub mod Told
pub mod Stages
pub mod Places
pub mod Undecided
