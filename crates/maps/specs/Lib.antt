pub mod Maps
