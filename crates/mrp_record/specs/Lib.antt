-- Records of lanes, the texts that lanes have of them, and a sender's cursor, as contracts see them.
pub mod Blocks
pub mod Entries
pub mod Form
pub mod Laws
pub mod Lengths
pub mod Text
pub mod Cursor
pub mod CursorLaws
pub mod Next
pub mod Shows
