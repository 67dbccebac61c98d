pub mod Faults
pub mod Letters
pub mod Names
pub mod Numbers
pub mod Values
pub mod Words
