-- The command line, and what it asks for.
pub mod CommandLine
pub mod Choice
pub mod Values
pub mod Meaning
