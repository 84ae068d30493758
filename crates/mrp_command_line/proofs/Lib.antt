-- The command line, proofs.
pub mod Numbers
pub mod RowFacts
pub mod CommandFacts
pub mod Commands
