-- Readiness: which pairs are ready, and what the others wait for.
pub mod Chosen
pub mod Components
pub mod Progress
pub mod Counts
pub mod ReadinessLaws
