pub mod Admission
pub mod Referents
pub mod Scanning
pub mod Refining
