-- The plan of the whole network, proofs: of pegging, explosion and orders.
pub mod Adding
pub mod Asked
pub mod Pegs
pub mod Next
pub mod Releasing
pub mod Ordering
pub mod Listing
pub mod FirmGiven
pub mod Planning
