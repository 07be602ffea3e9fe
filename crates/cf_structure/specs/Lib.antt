pub mod Raw
pub mod Texts
pub mod Structure
pub mod Spelled
pub mod ClassFile
pub mod Views
pub mod Laws
pub mod Calls
