pub mod Puts
pub mod Suits
pub mod Tables
