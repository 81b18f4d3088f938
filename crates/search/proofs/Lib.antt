-- The laws of the search of a plan.
pub mod Laws
mod Turns
