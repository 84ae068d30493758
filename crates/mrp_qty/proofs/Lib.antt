-- Quantities: rows of them, proofs.
pub mod RangeLaws
