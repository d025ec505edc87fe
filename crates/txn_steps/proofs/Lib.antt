pub mod CallLemmas
pub mod RangeLemmas
