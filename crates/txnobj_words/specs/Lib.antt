pub mod Commands
pub mod Said
pub mod Audited
pub mod Repaired
