pub mod Codes
pub mod Running
