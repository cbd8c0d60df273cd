pub mod Set
pub mod Digits
pub mod Masks
pub mod Words
pub mod Lists
pub mod Look
pub mod Members
pub mod Ranges
