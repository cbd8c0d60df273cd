pub mod Walk
pub mod Saving
pub mod Alike
pub mod Reaching
pub mod Saved
pub mod TiedAlike
