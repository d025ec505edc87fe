pub mod Threads
pub mod Tallies
pub mod Audits
pub mod Workers
pub mod Reports
pub mod Commands
pub mod drawings
