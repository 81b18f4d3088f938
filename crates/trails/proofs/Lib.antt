-- The laws of routes.
mod Climb
pub mod Ends
