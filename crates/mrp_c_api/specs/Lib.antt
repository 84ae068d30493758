-- The library for C: what its calls answer.
pub mod Answers
pub mod Buffer
pub mod Calls
pub mod Options
