pub mod Project
pub mod Verdicts
pub mod Chains
pub mod Inside
pub mod Joins
pub mod Counts
