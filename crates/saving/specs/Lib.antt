pub mod Saved
pub mod Numbering
pub mod Passes
