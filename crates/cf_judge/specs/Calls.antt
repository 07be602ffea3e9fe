-- What private functions ensure.
pub mod Words
pub mod Tells
pub mod Firsts
pub mod Inner
pub mod Keys
