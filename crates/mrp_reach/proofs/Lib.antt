-- Reach, until which period a plan is whole, proofs.
pub mod AgreeingRows
pub mod PairReach
pub mod LongerRows
pub mod LongerUsages
pub mod Leasts
pub mod WholePeriods
pub mod NetworkReach
pub mod DataReach
pub mod Demanded
pub mod SheetFacts
pub mod LongerDates
