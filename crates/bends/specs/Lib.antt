pub mod Bends
