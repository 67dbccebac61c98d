pub mod Refused
pub mod Slots
pub mod Runs
pub mod Held
pub mod Calls
