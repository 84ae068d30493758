-- Readiness, proofs: which pairs are ready, and what the others wait for.
pub mod Counting
pub mod Grouping
pub mod Listing
pub mod ReadyPlacing
