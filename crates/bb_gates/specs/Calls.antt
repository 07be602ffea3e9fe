-- What private functions ensure.
pub mod Chain
pub mod Folding
pub mod Table
pub mod Triple
