pub mod Meaning
pub mod Benches
pub mod Masks
pub mod Frames
pub mod Feeds
