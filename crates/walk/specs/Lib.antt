pub mod Flows
pub mod Faults
pub mod Walk
pub mod Lesser
pub mod Places
pub mod Search
pub mod Findings
