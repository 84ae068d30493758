-- The protocol between plants: what lanes carry, events, and laws of every run.
pub mod Deciding
pub mod LaneOrder
pub mod Laws
pub mod LoadLaws
pub mod Loads
pub mod Local
pub mod Progress
pub mod Seen
pub mod State
pub mod Steps
pub mod LocalPlans
pub mod Goods
pub mod LocalLaws
