mod Calls
mod Fills
