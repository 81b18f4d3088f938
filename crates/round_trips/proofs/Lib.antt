pub mod Lines
pub mod Maps
pub mod Theorem
