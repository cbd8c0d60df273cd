pub mod Shape
pub mod Counted
pub mod Cabling
