-- The plan of a whole network: pegging, explosion and orders.
pub mod Explosion
pub mod OrderLaws
pub mod Orders
pub mod Peg
pub mod PegLaws
pub mod Progress
