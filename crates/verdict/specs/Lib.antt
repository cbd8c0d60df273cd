pub mod Space
pub mod Line
