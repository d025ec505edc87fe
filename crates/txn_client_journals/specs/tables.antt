pub mod Operations
pub mod Views
