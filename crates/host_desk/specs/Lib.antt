pub mod HostCalls
pub mod Seats
