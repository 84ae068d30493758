-- The library, proofs: of its text functions, from the bytes of a table to a report or a fault.
pub mod LineFacts
pub mod LoopNames
pub mod NameFacts
pub mod TextFacts
pub mod RowFacts
pub mod GateFacts
pub mod TableFacts
pub mod CutFacts
pub mod AskedFacts
pub mod OneReport
pub mod FigureFacts
