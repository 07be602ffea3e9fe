pub mod Suited
pub mod References
pub mod Refusals
pub mod Calls
