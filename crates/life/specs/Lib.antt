pub mod Serving
pub mod Faithful
pub mod Snapshot
pub mod Promise
