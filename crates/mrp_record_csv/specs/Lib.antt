-- Records as CSV, read and written.
pub mod Grammar
pub mod Laws
pub mod Left
pub mod Most
pub mod Reading
pub mod Rows
pub mod Tests
