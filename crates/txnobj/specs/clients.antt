pub mod Noted
pub mod Happenings
pub mod Calling
pub mod Working
pub mod Bounds
