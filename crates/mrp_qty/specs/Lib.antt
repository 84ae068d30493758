-- Quantities: rows of them, and the limits of tables, as contracts see them.
pub mod Limits
pub mod Row
