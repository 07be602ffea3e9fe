pub mod Calls
pub mod Descriptors
pub mod Effects
pub mod Laws
pub mod Methods
pub mod Rules
pub mod Shape
