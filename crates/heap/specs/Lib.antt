pub mod Tiles
pub mod Sound
pub mod Effects
pub mod Steps
pub mod View
pub mod Images
