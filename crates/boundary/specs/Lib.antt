pub mod Lent
pub mod Searches
pub mod Walks
pub mod Texts
