pub mod Regions
pub mod Marks
pub mod Cards
