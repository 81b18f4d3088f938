pub mod Looks
pub mod Props
