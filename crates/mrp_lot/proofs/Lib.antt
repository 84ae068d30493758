-- Lot rules, proofs.
pub mod LotLaws
