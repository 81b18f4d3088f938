pub mod Walks
pub mod Calls
pub mod Nos
pub mod Demand3
pub mod States
