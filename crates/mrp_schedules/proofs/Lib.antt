-- Delivery schedules, proofs.
pub mod Amounts
pub mod Carried
pub mod Delivering
pub mod Follow
pub mod Periods
pub mod Planned
pub mod Released
pub mod RowFacts
pub mod SheetFacts
