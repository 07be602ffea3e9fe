pub mod Content
pub mod Laws
pub mod Calls
pub mod Members
