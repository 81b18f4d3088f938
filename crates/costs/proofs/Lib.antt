pub mod One
pub mod Product
pub mod Bounds
