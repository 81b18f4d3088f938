pub mod Loops
pub mod Roots
pub mod Weight
