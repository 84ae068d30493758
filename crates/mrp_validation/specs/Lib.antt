-- The grammar that validates a table: its rows, their tests and their faults.
pub mod Asked
pub mod Faults
pub mod Grammar
pub mod Left
pub mod LimitLaws
pub mod Missing
pub mod Reading
pub mod Tests
pub mod Written
