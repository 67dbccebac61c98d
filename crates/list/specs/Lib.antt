pub mod Counted
pub mod Pages
pub mod Rows
pub mod Shown
pub mod Typed
