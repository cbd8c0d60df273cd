pub mod Changes
pub mod Holding
pub mod Writing
pub mod Adding
pub mod Views
pub mod Contents
pub mod NewObject
