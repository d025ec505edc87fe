pub mod BoundaryLemmas
pub mod LayoutLemmas
