pub mod Cost
pub mod Scale
pub mod Limits
