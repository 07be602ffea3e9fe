-- What private functions ask for.
pub mod Contents
