-- The library, from the bytes of a table to a report or a fault: what contracts of its text functions cite.
pub mod Answer
pub mod Checks
pub mod Ending
pub mod Fault
pub mod FigureLaws
pub mod Gates
pub mod Laws
pub mod Lines
pub mod Refusals
pub mod Reports
pub mod Runs
pub mod Text
