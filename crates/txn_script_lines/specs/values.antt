pub mod Entry
pub mod Holder
pub mod Text
pub mod TextLaws
