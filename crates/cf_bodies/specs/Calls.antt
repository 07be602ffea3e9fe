-- What private functions ensure.
pub mod Views
pub mod Tells
pub mod Unmet
