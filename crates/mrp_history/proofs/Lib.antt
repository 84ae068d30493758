-- Histories of plants in logical time, proofs.
pub mod Prefixes
pub mod Decided
pub mod Merging
pub mod Causal
pub mod HistoryGoing
pub mod Stamped
pub mod Explained
pub mod Passing
