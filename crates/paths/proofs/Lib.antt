pub mod Laws
pub mod Legs
pub mod Arrives
pub mod Again
