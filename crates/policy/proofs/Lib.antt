pub mod Choosing
pub mod OneChoice
