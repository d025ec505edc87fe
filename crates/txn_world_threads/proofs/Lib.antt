pub mod Agreeing
pub mod Counting
pub mod Doing
pub mod Due
pub mod Journal
pub mod Once
pub mod Shares
