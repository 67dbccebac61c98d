pub mod Heads
pub mod Origins
pub mod Sections
pub mod Told
