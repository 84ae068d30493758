-- Delivery schedules of plants and vendors, and their report.
pub mod Calls
pub mod Following
pub mod ItemRows
pub mod Laws
pub mod ScheduleRows
pub mod Schedule
pub mod ScheduleSheets
pub mod Vendors
