-- What private functions ask for and ensure.
pub mod Flat
pub mod Sets
pub mod First
pub mod Below
pub mod Made
