pub mod Order
pub mod Keyed
pub mod Choice
