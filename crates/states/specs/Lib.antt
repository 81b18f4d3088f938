pub mod States
pub mod Blocks
