pub mod Walks
pub mod Straight
