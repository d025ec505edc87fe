-- Lemmas of this crate.
pub mod Matched
pub mod Joined
pub mod Renamed
pub mod Rows
pub mod Laid
pub mod Moved
pub mod Telling
pub mod Ending
pub mod Going
pub mod Goings
pub mod Opening
pub mod Turned
pub mod Alike
pub mod Reaching
mod Taken
mod PlainTurns
mod EntryTurns
mod Nexts
mod ReadsLeft
mod ReadTurns
mod ClaimTurns
pub mod Turning
pub mod Starts
pub mod Runs
pub mod Serving
pub mod Leaving
pub mod GivingUp
pub mod Failing
pub mod Lacking
mod Places
mod Busies
pub mod Fits
pub mod Busy
pub mod Crashing
pub mod Beginning
pub mod CallsGoOn
mod TokensGiven
pub mod AddedRows
pub mod Owned
pub mod Joining
pub mod Reached
mod Claims
mod Claimed
pub mod ViewsGoOn
mod FailedTurns
mod Refusing
pub mod Spending
pub mod Windowed
pub mod Mirroring
