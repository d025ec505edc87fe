pub mod ReadLemmas
pub mod CallLemmas
