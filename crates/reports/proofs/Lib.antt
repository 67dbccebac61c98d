mod Lining
mod Reporting
pub mod Showing
