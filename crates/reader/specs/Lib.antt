pub mod Faults
pub mod Lines
pub mod Listed
pub mod Marked
pub mod Reading
pub mod Laws
