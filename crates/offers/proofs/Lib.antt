-- The laws of the search over any expansion.
pub mod Laws
pub mod Good
pub mod Start
pub mod Passed
pub mod Loop
pub mod Rounds
