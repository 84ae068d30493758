-- Shortages of parts in period 0, proofs.
pub mod Lacking
pub mod There
pub mod LineFacts
pub mod SheetFacts
