pub mod Auditing
pub mod CommandWords
pub mod Finishing
pub mod Ready
pub mod Sharing
