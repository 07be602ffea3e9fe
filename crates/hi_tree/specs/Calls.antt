-- What private functions ask for and ensure.
pub mod Index
pub mod Steps
pub mod Walking
pub mod Choosing
pub mod Shapes
pub mod Specials
