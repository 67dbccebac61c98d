pub mod Carrying
mod Idling
mod Lawfulness
pub mod Lining
mod Marking
mod Moving
mod Ranging
mod Stepping
