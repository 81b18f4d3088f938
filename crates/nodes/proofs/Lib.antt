-- The laws of the nodes.
mod Views
pub mod Laws
pub mod History
pub mod Places
