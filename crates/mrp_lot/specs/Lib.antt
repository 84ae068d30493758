-- Lot rules and their laws.
pub mod Lot
pub mod Rules
