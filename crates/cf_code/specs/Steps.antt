-- What private functions ensure on the way to a public promise: no public contract names these.
pub mod Accesses
pub mod Families
pub mod Opcodes
pub mod Starts
pub mod Ways
