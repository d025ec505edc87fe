pub mod HistoryEnding
mod Keeping
mod Receiving
