pub mod Points
pub mod Walks
pub mod Estimate
