pub mod Flowing
pub mod Lowests
pub mod Ways
pub mod Waiting
pub mod Hunting
pub mod Sighting
pub mod Aiming
