-- What private functions ensure.
pub mod Marks
pub mod Terms
pub mod Words
