pub mod Plane
pub mod Compass
pub mod Refusals
