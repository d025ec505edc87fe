pub mod Lists
pub mod Kept
pub mod KeptLends
pub mod Finish
pub mod Work
pub mod GoesOn
pub mod Done
pub mod Crew
