-- The laws of the search's order.
pub mod Order
pub mod Ties
