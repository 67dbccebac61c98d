pub mod Words
pub mod Numbers
pub mod Names
pub mod Hex
pub mod Calls
