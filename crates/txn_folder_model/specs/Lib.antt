pub mod Worlds
pub mod Linear
pub mod Power
pub mod Examples
pub mod Listings
pub mod Runs
pub mod Clients
