-- CSV output, proofs: of its rows, and of how they are sent out.
pub mod RowFacts
pub mod Fronts
pub mod PlainFacts
pub mod ReadBack
pub mod FieldFacts
pub mod EmptyFields
