-- Reports: of plan, late orders, orders, pegs, codes and figures.
pub mod Headings
pub mod Report
pub mod Orders
pub mod OrderLines
pub mod Lanes
pub mod Parts
pub mod Rounds
pub mod Gathering
pub mod Pegs
pub mod PegParts
pub mod Sheets
pub mod Laws
pub mod Terms
pub mod Codes
