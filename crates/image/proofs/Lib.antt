mod Mapped
mod Numbers
mod Runs
mod Stages
mod Said
mod Written
pub mod Exact
mod Places
pub mod Sizes
