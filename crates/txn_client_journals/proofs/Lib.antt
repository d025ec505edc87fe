pub mod Verdict
pub mod Numbers
pub mod Operations
pub mod Views
pub mod Files
pub mod Told
pub mod Taken
pub mod Lefts
pub mod Order
pub mod Killing
pub mod Calls
pub mod Ties
pub mod Begun
pub mod Begins
pub mod Stages
pub mod ClientRows
pub mod Landings
pub mod Runs
pub mod Woven
pub mod Once
pub mod Complete
pub mod Shares
mod Examples
mod Leads
mod Following
mod OneStore
