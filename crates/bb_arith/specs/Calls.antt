-- What private functions ensure.
pub mod Division
pub mod Moves
