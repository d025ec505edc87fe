pub mod Indexes
pub mod Ascending
pub mod Making
