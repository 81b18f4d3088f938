-- The laws of the sifts.
pub mod Lists
pub mod Turns
