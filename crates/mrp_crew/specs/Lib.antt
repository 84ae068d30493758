-- A plant's crew of workers, as contracts see it.
pub mod Planning
pub mod State
pub mod Shut
pub mod Rooms
pub mod Started
pub mod Settled
pub mod Laws
