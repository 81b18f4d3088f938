pub mod Laws
pub mod Keeps
mod Turns
pub mod Leaps
pub mod Starts
