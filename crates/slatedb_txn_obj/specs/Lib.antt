pub mod Leaves
pub mod Checked
pub mod Protocol
pub mod Whole
pub mod Boundaries
pub mod WholeLaws
pub mod Views
pub mod Claims
