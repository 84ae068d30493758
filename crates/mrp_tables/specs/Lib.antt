-- The reader of tables: what its contracts cite.
pub mod Amounts
pub mod Bulk
pub mod Drafts
pub mod Keys
pub mod Lists
pub mod Pieces
pub mod Sources
pub mod Spelled
pub mod Steps
