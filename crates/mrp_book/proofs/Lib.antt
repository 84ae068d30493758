-- The book of a lane's receiver, proofs.
pub mod Advancing
pub mod Deciding
pub mod Following
pub mod Meaning
pub mod Opening
pub mod Places
pub mod Showing
pub mod Turns
