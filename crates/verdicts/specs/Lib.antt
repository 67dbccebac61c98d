pub mod Found
pub mod Loading
pub mod Pages
pub mod Rejected
