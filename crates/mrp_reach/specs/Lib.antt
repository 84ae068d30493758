-- Reach: until which period a plan is whole.
pub mod Lengthening
pub mod Reach
pub mod ReachLaws
pub mod ReachRows
pub mod ReachSheets
