-- The loop check with low-level codes, and the bound: when a network is sized.
pub mod BoundFaults
pub mod Codes
pub mod Laws
pub mod Loop
pub mod LoopFaults
pub mod Need
pub mod Order
pub mod Planning
pub mod Sized
pub mod Taking
pub mod Upstream
pub mod Walk
pub mod Within
