mod Lent
mod Searches
