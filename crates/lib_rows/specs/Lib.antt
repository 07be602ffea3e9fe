pub mod Calls
pub mod Classes
pub mod Laws
pub mod Methods
pub mod Rows
