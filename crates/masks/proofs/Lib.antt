pub mod Every
pub mod Ands
