pub mod Bits
pub mod Updates
