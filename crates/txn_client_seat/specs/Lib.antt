pub mod Numbered
pub mod UncheckedOps
pub mod UncheckedCalls
pub mod Lines
pub mod Waiting
pub mod Kept
pub mod Seats
pub mod Desks
