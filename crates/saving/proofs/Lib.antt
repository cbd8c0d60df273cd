pub mod Meeting
pub mod Walks
pub mod Sums
pub mod Turns
pub mod Ends
pub mod Rooms
