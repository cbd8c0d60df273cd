pub mod Access
pub mod Words
pub mod Held
