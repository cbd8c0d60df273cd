pub mod Set
pub mod Digit
pub mod Members
