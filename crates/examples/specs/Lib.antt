-- The examples that are computed from the definitions: document 01's table of proved examples, and then by subject.
pub mod Proved
pub mod Ground
pub mod Jumps
pub mod Searches
pub mod Texts
pub mod Faults
pub mod Tables
pub mod Lists
pub mod Orders
pub mod Mistakes
pub mod Hosts
