pub mod Types
pub mod Upward
pub mod Calls
