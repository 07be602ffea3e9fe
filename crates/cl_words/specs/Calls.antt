-- What private functions ensure.
pub mod Options
