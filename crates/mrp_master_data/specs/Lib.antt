-- Master data of a table: its rows with names as numbers, and how their fields are spelled.
pub mod Digits
pub mod Parsing
pub mod Spelled
pub mod Spelling
pub mod Steps
pub mod Supplies
pub mod SupplyParsing
pub mod Dropping
pub mod Growing
pub mod Names
pub mod Places
pub mod Rows
pub mod Table
pub mod Turns
pub mod Said
