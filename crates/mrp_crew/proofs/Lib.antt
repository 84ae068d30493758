-- A plant's crew of workers, proofs.
pub mod PlanningLaws
pub mod Ready
pub mod Fronts
pub mod Keeping
pub mod Drafting
pub mod Joining
pub mod ShutGates
pub mod Crossing
