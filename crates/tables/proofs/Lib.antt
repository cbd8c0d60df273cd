pub mod Finding
pub mod Tables
