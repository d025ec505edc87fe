pub mod EntryLemmas
pub mod TextLemmas
