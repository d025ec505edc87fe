pub mod NumeralLemmas
pub mod ExactReaders
pub mod RecordLemmas
pub mod Cuts
pub mod Lengths
pub mod Pieces
pub mod Feeds
pub mod Skips
