pub mod Expand
pub mod Start
