-- Grouping, sorting and adding up by a key, proofs.
pub mod Grouping
pub mod Sorting
pub mod Placing
pub mod Kept
pub mod Adding
pub mod Finding
