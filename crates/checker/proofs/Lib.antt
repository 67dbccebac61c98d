pub mod Sets
pub mod Fitting
pub mod Entering
pub mod Outwards
pub mod Chaining
pub mod Judging
pub mod Clearing
pub mod Counting
