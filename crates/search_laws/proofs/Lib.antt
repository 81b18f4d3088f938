pub mod Sums
pub mod Replies
pub mod Costs
pub mod Order
pub mod Calls
