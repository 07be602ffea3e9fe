pub mod Pool
pub mod Descriptors
pub mod Opcodes
pub mod Exceptions
pub mod Facts
pub mod Methods
pub mod Laws
pub mod OpcodeLaw
