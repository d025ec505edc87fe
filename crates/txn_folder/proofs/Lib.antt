pub mod NameLemmas
pub mod PageLemmas
pub mod Machines
pub mod ListLemmas
