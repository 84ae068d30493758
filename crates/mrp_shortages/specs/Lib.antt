-- Shortages of parts in period 0, and their report.
pub mod Shortages
pub mod ShortageRows
pub mod ShortageLines
pub mod ShortageLaws
