pub mod Blasts
pub mod Calls
pub mod Cones
pub mod Laws
pub mod Tables
