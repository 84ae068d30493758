-- Tests of the library and its reports: tables worked by hand.
pub mod Worked
pub mod FirmOrders
pub mod Policies
pub mod Pumps
pub mod PumpsReports
pub mod ShortParts
pub mod Usages
pub mod Vendors
pub mod Frames
