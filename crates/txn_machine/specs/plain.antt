pub mod PlainHistory
pub mod PlainLaws
pub mod PlainAllowed
pub mod Doing
pub mod Machine
pub mod Alone
pub mod Probing
