pub mod Gathering
pub mod Telling
pub mod Following
pub mod Landing
pub mod Placed
pub mod Counting
pub mod Deciding
