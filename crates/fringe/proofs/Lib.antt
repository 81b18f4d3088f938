-- The laws of the fringe.
pub mod Laws
mod Trim
