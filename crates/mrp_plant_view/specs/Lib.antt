-- The view of one plant: what the plant sees of a network.
pub mod Lists
pub mod Loads
pub mod View
pub mod Seen
pub mod Laws
