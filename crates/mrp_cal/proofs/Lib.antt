-- The calendar and its dates, proofs.
pub mod BegunFacts
pub mod Calendars
pub mod Days
pub mod Digits
pub mod Since
pub mod Spelled
pub mod Written
