pub mod State
pub mod Objects
pub mod Edits
pub mod Graph
