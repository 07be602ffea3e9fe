pub mod Joins
pub mod Places
pub mod Runs
pub mod Search
pub mod Ways
