-- The view of one plant, proofs.
pub mod Calling
pub mod Loading
pub mod Spans
pub mod PairRows
pub mod Pushing
pub mod Once
pub mod Seeing
pub mod OwnEdges
pub mod OwnNumbers
pub mod SeeingLanes
pub mod Ranges
pub mod Placing
pub mod Views
pub mod Crossing
