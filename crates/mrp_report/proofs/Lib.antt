-- Reports of plan, late orders, orders, pegs, codes and figures, proofs.
pub mod Crossing
pub mod DigitFacts
pub mod RowFacts
pub mod PartFacts
pub mod PieceFacts
pub mod RoundFacts
pub mod SheetFacts
pub mod RoomFacts
pub mod SupplyTexts
pub mod SupplyFacts
pub mod OrderFacts
pub mod GatherFacts
pub mod PegFacts
