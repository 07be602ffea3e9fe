-- What private functions ensure.
pub mod Contents
