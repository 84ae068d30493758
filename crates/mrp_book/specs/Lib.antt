-- The book of a lane's receiver: what it is, to contracts.
pub mod After
pub mod Faults
pub mod Figures
pub mod LaneFigures
pub mod Laws
pub mod Meanings
