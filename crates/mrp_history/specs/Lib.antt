-- Histories of plants in logical time.
pub mod History
pub mod Stamps
pub mod HistoryLaws
