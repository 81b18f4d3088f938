pub mod Halves
pub mod Signed
pub mod Range
