-- Grouping, sorting and adding up rows of any kind by a key.
pub mod Groups
pub mod Starts
pub mod Counts
pub mod Added
pub mod Laws
