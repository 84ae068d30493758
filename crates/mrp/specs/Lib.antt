-- The program `mrp`: how it ends.
pub mod Ending
