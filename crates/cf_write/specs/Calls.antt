-- What private functions put.
pub mod Texts
