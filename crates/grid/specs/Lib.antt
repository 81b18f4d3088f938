pub mod Grids
pub mod Questions
