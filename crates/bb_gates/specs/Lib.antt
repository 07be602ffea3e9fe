pub mod Calls
pub mod Growth
pub mod Laws
pub mod Values
