pub mod ModifiedUtf8
pub mod Tags
pub mod Spelling
pub mod Entries
pub mod ConstantPool
pub mod Calls
pub mod Laws
