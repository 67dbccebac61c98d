mod Hexes
mod Forming
pub mod Shows
