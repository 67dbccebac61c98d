pub mod Told
pub mod Projects
