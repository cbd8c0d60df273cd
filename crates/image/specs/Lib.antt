pub mod Content
pub mod Steps
pub mod Read
pub mod Pass
pub mod Stage
pub mod Numbering
