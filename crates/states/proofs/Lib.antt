pub mod State
pub mod Blocks
