mod Counting
pub mod Naming
mod Wording
