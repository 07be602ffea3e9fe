pub mod Calls
pub mod Instr
pub mod Laws
pub mod Thin
pub mod ThinCode
