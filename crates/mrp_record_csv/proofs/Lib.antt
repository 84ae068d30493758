-- Records as CSV, read and written, proofs.
pub mod Back
pub mod Bytes
pub mod First
pub mod Listed
pub mod Loop
pub mod Names
pub mod Rows
pub mod Spelling
pub mod Taking
pub mod Texts
