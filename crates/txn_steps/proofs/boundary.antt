pub mod WindowLemmas
pub mod StepLemmas
pub mod CountLemmas
