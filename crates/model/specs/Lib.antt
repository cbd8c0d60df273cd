pub mod Refusals
pub mod Roots
pub mod Graph
pub mod Edits
pub mod Held
pub mod Tied
