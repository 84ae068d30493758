-- CSV output: rows, headings and dates, and how they are sent out.
pub mod DateLists
pub mod Dates
pub mod Fields
pub mod Headings
pub mod Names
pub mod Rows
pub mod Sending
pub mod Sent
pub mod Sheets
pub mod Writing
