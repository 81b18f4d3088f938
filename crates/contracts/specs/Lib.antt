pub mod Allowed
pub mod Values
pub mod Grids
pub mod Searches
pub mod Hosts
pub mod Results
