-- The definitions that the contracts cite, and what the laws say of them.
pub mod Nodes
pub mod Bound
