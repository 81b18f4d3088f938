-- The definitions that the contracts cite, and what the laws say of them.
pub mod Search
pub mod Passed
