-- The definitions that the contracts cite, and what the laws say of them.
pub mod Keys
pub mod Order
pub mod Ties
