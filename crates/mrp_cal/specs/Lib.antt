-- The calendar and its dates, as contracts see them.
pub mod Begins
pub mod Calendar
pub mod DateText
pub mod Days
pub mod Made
