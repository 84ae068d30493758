-- The run by threads of a network, as contracts see it.
pub mod Ends
pub mod Faults
pub mod Gates
pub mod Joined
pub mod Laws
pub mod Moments
pub mod Outcome
pub mod Plant
pub mod Settings
pub mod Steps
pub mod Worst
